pub mod Apart
pub mod Ended
pub mod Laws
pub mod Made
pub mod Nodes
pub mod Outcome
pub mod Script
pub mod Started
pub mod Ways
pub use Rattle.m2_cluster.specs.m2_center as m2_center
pub use Rattle.m2_cluster.specs as m2_cluster
pub use Rattle.m2_record.specs as m2_record
