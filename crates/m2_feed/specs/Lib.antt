pub mod AnswerLaws
pub mod Calls
pub mod FeedLaws
pub mod FeedNow
pub mod FrameHeard
pub mod FrameLaws
pub mod Front
pub mod Heard
pub mod Stands
pub use Rattle.m2_addr.specs as m2_addr
pub use Rattle.m2_control.specs as m2_control
pub use Rattle.m2_frame.specs.m2_crc as m2_crc
pub use Rattle.m2_fabric.specs as m2_fabric
pub use Rattle.m2_frame.specs as m2_frame
pub use Rattle.m2_handshake.specs as m2_handshake
pub use Rattle.m2_journal.specs as m2_journal
pub use Rattle.m2_message.specs as m2_message
pub use Rattle.m2_policy.specs as m2_policy
pub use Rattle.m2_session.specs as m2_session
