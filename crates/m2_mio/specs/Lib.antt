pub mod Address
pub mod End
pub mod Port
pub mod Stream
