pub mod Center
pub mod CenterTurn
pub mod Dry
pub mod Finishing
pub mod Home
pub mod Idle
pub mod Making
pub mod Plans
pub mod Reaching
pub mod RecordEnds
pub use Rattle.m2_record.specs.m2_core as m2_core
pub use Rattle.m2_turn.specs.m2_feed as m2_feed
pub use Rattle.m2_record.specs as m2_record
pub use Rattle.m2_turn.specs as m2_turn
