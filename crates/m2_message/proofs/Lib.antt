pub mod Carried
pub mod Headers
pub use Rattle.m2_frame.proofs as m2_frame
