pub mod Calls
pub mod Handed
