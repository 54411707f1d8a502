pub mod Doing
pub mod OneCenter
pub mod OneNode
pub mod TurnsInMemory
pub mod RestOfPort
pub use Rattle.m2_center.proofs as m2_center
