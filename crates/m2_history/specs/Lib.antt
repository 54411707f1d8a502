pub mod Actors
pub mod Counted
pub mod Crossed
pub mod Delivered
pub mod Ends
pub mod HalfStrands
pub mod Halves
pub mod Link
pub mod Lossy
pub mod Marked
pub mod Order
pub mod Parts
pub mod Sockets
pub mod Steps
pub mod Woven
pub mod WovenLaws
pub mod WovenLink
pub use Rattle.m2_channel.specs as m2_channel
pub use Rattle.m2_record.specs as m2_record
pub use Rattle.m2_trail.specs as m2_trail
