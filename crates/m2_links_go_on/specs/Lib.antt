pub mod Center
pub mod Cluster
pub mod ClusterLaws
pub mod ClusterTold
pub mod Course
pub mod CourseEnded
pub mod CourseLaws
pub mod InStep
pub mod Left
pub mod LeftLaws
pub mod LinkLaws
pub mod Linked
pub mod LogLaws
pub mod Logged
pub mod Made
pub mod OfPeers
pub mod PeerLaws
pub mod Records
pub mod Sides
pub mod TellingLaws
pub mod Told
pub mod ToldLaws
pub mod ToldSides
pub mod TurnLaws
pub mod WovenSo
pub use Rattle.m2_fabric.specs as m2_fabric
pub use Rattle.m2_growth.specs as m2_growth
pub use Rattle.m2_history.specs as m2_history
pub use Rattle.m2_weave.specs as m2_weave
