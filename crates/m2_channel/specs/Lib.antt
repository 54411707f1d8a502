pub mod Channel
pub mod ChannelLaws
pub mod Observed
pub mod ObservedLaws
pub mod Handing
pub mod Lossy
pub use Rattle.m2_dispatch.specs as m2_dispatch
pub use Rattle.m2_never_reset.specs as m2_never_reset
