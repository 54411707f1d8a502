pub mod Sublists
pub mod Totals
pub mod Keeps
pub mod Held
