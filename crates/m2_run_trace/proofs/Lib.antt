pub mod Acts
pub mod Deeds
pub mod Judged
pub mod LineActs
pub mod Lines
pub mod Names
pub mod TextLines
pub mod Trails
