pub mod Sources
pub mod TakenTrails
pub mod Entered
pub mod RecordNow
pub mod IsRecord
pub mod Due
pub mod Calls
pub mod Reading
pub mod Framing
pub mod Stepping
pub mod Judging
pub mod AsksJudged
pub use Rattle.m2_core.specs as m2_core
