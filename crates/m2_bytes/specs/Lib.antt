pub mod Blob
pub mod Part
pub mod Fields
pub mod Hexadecimal
pub mod Items
