pub mod Answers
pub mod Bounds
pub mod Dialling
pub mod Draws
pub mod Events
pub mod Feeds
pub mod Phases
pub mod Rows
