pub mod Arrivals
pub mod Asks
pub mod HalfLaws
pub mod Home
pub mod Incoming
pub mod Moving
pub mod Replies
pub mod TrailLaws
pub mod Trails
pub mod Turn
pub mod TurnMoves
pub mod Unput
pub use Rattle.m2_control.specs as m2_control
