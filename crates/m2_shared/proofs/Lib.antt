pub mod Sums
pub mod HeldSteps
pub mod CountedSteps
pub mod Asking
