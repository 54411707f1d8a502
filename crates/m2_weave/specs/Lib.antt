pub mod Both
pub mod Counted
pub mod Counting
pub mod Later
pub mod MergeLaws
pub mod Merging
pub mod Order
pub mod Rule
pub mod Stops
pub mod Strands
pub mod Table
pub mod Tally
pub mod Tidy
pub mod TurnLaws
pub mod Users
pub mod WeaveLaws
pub use Rattle.m2_journal.specs.m2_control as m2_control
pub use Rattle.m2_journal.specs.m2_handshake as m2_handshake
pub use Rattle.m2_journal.specs as m2_journal
pub use Rattle.m2_journal.specs.m2_session as m2_session
