pub mod Acceptors
pub mod Asking
pub mod Bounded
pub mod Composed
pub mod Entries
pub mod Formats
pub mod Fronts
pub mod Growing
pub mod Hands
pub mod Hearing
pub mod Hears
pub mod Judges
pub mod Kept
pub mod Less
pub mod Lists
pub mod Moves
pub mod OnePoint
pub mod Openers
pub mod Orders
pub mod Points
pub mod Posts
pub mod Puts
pub mod Says
pub mod Sent
pub mod Steps
pub mod Trails
pub use Rattle.m2_feed.proofs as m2_feed
pub use Rattle.m2_never_reset.proofs as m2_never_reset
pub use Rattle.m2_trail.proofs as m2_trail
