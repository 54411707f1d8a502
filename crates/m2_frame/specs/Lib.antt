pub mod Decoder
pub mod Faults
pub mod Frame
pub mod Grammar
pub mod Holds
pub mod Judging
pub mod Position
pub mod Preamble
pub mod Reading
pub mod Stream
pub mod Tags
pub mod Text
pub mod View
pub use Rattle.m2_crc.specs as m2_crc
