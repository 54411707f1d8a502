pub mod EntriesFields
pub mod Plan
pub mod SideFacts
pub mod Items
pub mod Said
pub mod OutFrames
pub mod State
pub mod Feeds
pub mod Steps
pub mod Lawful
pub mod Replay
pub mod Growth
pub mod Laws
pub use Rattle.m2_handshake.specs.m2_control as m2_control
pub use Rattle.m2_fabric.specs as m2_fabric
pub use Rattle.m2_handshake.specs as m2_handshake
pub use Rattle.m2_message.specs as m2_message
pub use Rattle.m2_policy.specs as m2_policy
pub use Rattle.m2_queues.specs as m2_queues
pub use Rattle.m2_session.specs as m2_session
