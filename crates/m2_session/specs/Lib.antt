pub mod AnswerLaws
pub mod Asks
pub mod Conditions
pub mod Cookies
pub mod Dials
pub mod Frames
pub mod Ident
pub mod Phases
pub mod Reconnect
pub mod SessionLaws
pub mod Steps
pub mod Table
pub use Rattle.m2_addr.specs as m2_addr
pub use Rattle.m2_control.specs as m2_control
pub use Rattle.m2_policy.specs as m2_policy
