pub mod Dryness
pub mod EndsHear
pub mod Granted
pub mod Had
pub mod HandedOn
pub mod KeptOn
pub mod Lent
pub mod Passing
pub mod Places
pub mod Planned
pub mod Reached
pub mod RecordsHear
pub mod Rosters
pub mod Stages
pub mod TurnParts
pub use Rattle.m2_turn.proofs as m2_turn
