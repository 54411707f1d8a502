pub mod FeatureBits
pub mod OneWinner
pub use Rattle.m2_addr.proofs as m2_addr
