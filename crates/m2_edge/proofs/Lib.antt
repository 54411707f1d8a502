pub mod Counted
pub mod Known
pub mod Places
pub mod Wholes
