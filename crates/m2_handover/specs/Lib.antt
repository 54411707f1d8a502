pub mod Door
pub mod End
pub mod Handed
pub mod Home
pub mod Past
pub mod Way
pub use Rattle.m2_mailbox.specs as m2_mailbox
