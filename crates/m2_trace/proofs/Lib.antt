pub mod Appended
pub mod Dialled
pub mod Named
