pub mod Asking
pub mod Asks
pub mod Course
pub mod Greeting
pub mod Half
pub mod Ident
pub mod Laws
pub mod Moves
pub mod Reading
pub mod Standing
pub mod Steps
pub mod Texts
pub use Rattle.m2_control.specs as m2_control
pub use Rattle.m2_frame.specs as m2_frame
