pub mod Merge
pub mod Laws
pub mod Slip
pub mod Views
pub mod Rule
pub mod Passes
pub mod Rest
