pub mod Ended
pub mod Facts
pub mod FieldName
pub mod Fields
pub mod Head
pub mod Header
pub mod Laws
pub mod Line
pub mod MessageType
pub mod ReadOnce
pub mod Top
pub mod Value
pub use Rattle.m2_frame.specs as m2_frame
pub use Rattle.m2_control.specs as m2_control
pub use Rattle.m2_listing.specs as m2_listing
pub use Rattle.m2_message.specs as m2_message
