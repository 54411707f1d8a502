pub mod Listing
pub mod Passing
pub mod Reading
pub mod SoFar
pub mod Stream
pub use Rattle.m2_frame.specs as m2_frame
pub use Rattle.m2_edge.specs as m2_edge
