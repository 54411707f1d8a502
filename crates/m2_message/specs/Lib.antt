pub mod HeaderText
pub mod Laws
pub mod Message
pub mod MessageFrame
pub use Rattle.m2_frame.specs.m2_crc as m2_crc
pub use Rattle.m2_frame.specs as m2_frame
