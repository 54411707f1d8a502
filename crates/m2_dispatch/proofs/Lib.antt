pub mod Histories
pub mod Letters
pub mod Ordered
pub use Rattle.m2_bytes.proofs.m2_lemmas as m2_lemmas
pub use Rattle.m2_queues.proofs as m2_queues
