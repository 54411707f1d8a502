pub mod Accepting
pub mod Alone
pub mod Asked
pub mod Logs
pub mod Sockets
pub mod Stepping
pub mod Supplied
