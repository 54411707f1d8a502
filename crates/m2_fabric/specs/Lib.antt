pub mod CutEnd
pub mod CutPort
pub mod Cuts
pub mod End
pub mod Exact
pub mod Fabric
pub mod Holder
pub mod InStep
pub mod Kept
pub mod Kinds
pub mod Laws
pub mod Log
pub mod Meeting
pub mod Newest
pub mod News
pub mod Over
pub mod Port
pub mod SimFabric
pub mod SimPort
pub mod Sockets
pub use Rattle.m2_addr.specs as m2_addr
pub use Rattle.m2_bytes.specs as m2_bytes
pub use Rattle.m2_edge.specs as m2_edge
