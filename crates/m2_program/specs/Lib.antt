pub mod Complaint
pub mod Running
pub mod Status
pub mod Writing
