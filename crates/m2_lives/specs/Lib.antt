pub mod Lives
pub mod LivesLaws
pub mod Observed
pub mod ObservedLaws
pub mod ObservedRun
pub mod Handing
pub mod LifeAfterLife
pub mod LifeForLife
pub mod OneLife
pub mod InLives
pub use Rattle.m2_bytes_fit.specs as m2_bytes_fit
