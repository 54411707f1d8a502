mod Decimals
mod HexText
pub mod Appending
pub use Rattle.m2_lemmas.proofs as m2_lemmas
