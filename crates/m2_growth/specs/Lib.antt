pub mod AskLaws
pub mod Ends
pub mod GrowthLaws
pub mod Halves
pub mod Holding
pub mod InStepLaws
pub mod Passed
pub mod Ports
pub mod Records
pub mod Turn
pub use Rattle.m2_bytes_fit.specs as m2_bytes_fit
pub use Rattle.m2_turn.specs as m2_turn
