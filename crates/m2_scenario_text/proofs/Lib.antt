pub mod LinesRead
pub mod Options
pub mod Texts
