pub mod ByRank
pub mod Histories
pub mod InOrder
pub mod Joining
pub mod Kept
pub mod Lanes
pub mod Permuted
pub mod Unsent
pub use Rattle.m2_bytes.proofs.m2_lemmas as m2_lemmas
