pub mod Exact
pub mod Shape
pub mod Addresses
pub mod Fields
pub mod Order
pub mod Mains
