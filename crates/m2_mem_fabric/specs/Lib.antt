pub mod End
pub mod Fabric
pub mod Failing
pub mod Line
pub mod Network
pub mod Port
pub mod Stream
