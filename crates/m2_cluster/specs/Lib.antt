pub mod Cluster
pub mod Node
pub use Rattle.m2_center.specs as m2_center
pub use Rattle.m2_center.specs.m2_core as m2_core
pub use Rattle.m2_center.specs.m2_feed as m2_feed
