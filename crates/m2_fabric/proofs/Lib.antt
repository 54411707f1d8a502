pub mod Arriving
pub mod Below
pub mod Bounds
pub mod Cutting
pub mod Entering
pub mod Exact
pub mod Flowing
pub mod Loops
pub mod Over
pub mod Pairs
pub mod Passes
pub mod Told
pub mod Turns
pub mod Waits
pub mod Sockets
pub use Rattle.m2_addr.proofs as m2_addr
pub use Rattle.m2_bytes.proofs.m2_lemmas as m2_lemmas
