pub mod Again
pub mod Doors
pub mod Handing
pub mod Homes
pub mod Named
pub mod Shaking
pub mod Shown
pub mod Weights
