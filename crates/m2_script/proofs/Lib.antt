pub mod Apart
pub mod Bare
pub mod CutsMore
pub mod Deeds
pub mod Lefts
pub mod Lists
pub mod Logs
pub mod Moving
pub mod Needs
pub mod Nodes
pub mod Over
pub mod Places
pub mod SoFar
pub mod Splits
pub mod Steps
pub mod Turning
pub use Rattle.m2_cluster.proofs.m2_center as m2_center
