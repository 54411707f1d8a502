pub mod Accepting
pub mod Answering
pub mod Beside
pub mod Busy
pub mod Connecting
pub mod HalfTurn
pub mod Halves
pub mod HalvesTurn
pub mod Handing
pub mod HandingOn
pub mod Hearing
pub mod Judging
pub mod Laws
pub mod Mailing
pub mod Outbox
pub mod Pending
pub mod Planning
pub mod RecordTurn
pub mod RecordsTurn
pub mod Sessions
pub mod Steps
pub use Rattle.m2_record.specs.m2_core as m2_core
pub use Rattle.m2_feed.specs as m2_feed
pub use Rattle.m2_handshake.specs as m2_handshake
pub use Rattle.m2_record.specs as m2_record
pub use Rattle.m2_session.specs as m2_session
