pub mod Ends
pub mod Halves
pub mod Orders
pub mod Posts
pub mod Texts
pub mod Trails
pub use Rattle.m2_feed.specs as m2_feed
pub use Rattle.m2_never_reset.specs as m2_never_reset
pub use Rattle.m2_trail.specs as m2_trail
