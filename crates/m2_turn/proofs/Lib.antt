pub mod Answered
pub mod Came
pub mod Emptied
pub mod GoesOn
pub mod Handed
pub mod HandingOn
pub mod Heard
pub mod InOrder
pub mod Joined
pub mod Known
pub mod Led
pub mod Left
pub mod Lending
pub mod MoreHanded
pub mod Opened
pub mod Peers
pub mod Queued
pub mod Steady
pub mod Told
pub mod Turned
pub mod Waiting
pub mod Wholes
pub use Rattle.m2_record.proofs.m2_core as m2_core
pub use Rattle.m2_feed.proofs as m2_feed
pub use Rattle.m2_handshake.proofs as m2_handshake
pub use Rattle.m2_record.proofs as m2_record
pub use Rattle.m2_session.proofs as m2_session
