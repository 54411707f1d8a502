pub mod Numbers
pub mod Booleans
pub mod Lists
pub mod Bytes
pub mod Options
