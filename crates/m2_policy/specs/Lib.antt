pub mod Policy
pub mod Rules
pub mod Race
pub mod Laws
pub mod Features
pub mod Path
pub use Rattle.m2_addr.specs as m2_addr
