pub mod Along
pub mod Clearing
pub mod Counting
pub mod CountersMet
pub mod Deciding
pub mod Example
pub mod Fitting
pub mod Flowed
pub mod Furthest
pub mod Going
pub mod Greedy
pub mod Items
pub mod Listing
pub mod Named
pub mod Naming
pub mod Numbering
pub mod Places
pub mod Runs
pub mod Staying
pub mod Sums
pub mod Tallies
pub mod Tidy
pub mod Turn
pub mod Whole
pub mod Written
pub use Rattle.m2_journal.proofs.m2_handshake as m2_handshake
pub use Rattle.m2_journal.proofs as m2_journal
