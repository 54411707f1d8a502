pub mod WholeBytes
pub mod EightBytes
