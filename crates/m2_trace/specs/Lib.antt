pub mod Dials
pub mod Ends
pub mod Entries
pub mod Laws
pub mod Rows
pub mod Sides
pub mod Words
