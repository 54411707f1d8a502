pub mod Reading
pub mod Grammar
pub mod Outcome
pub mod Addr
pub mod Shape
pub mod Vector
pub mod Order
pub mod Laws
