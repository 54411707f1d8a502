pub mod Closing
pub mod Cuts
pub mod Gathering
pub mod Joined
pub mod Kept
pub mod Listening
pub mod Once
pub mod Opened
pub mod Ran
pub mod Rests
pub mod Settling
pub mod Still
pub mod Types
pub mod Weaving
pub use Rattle.m2_node.specs.m2_links_go_on as m2_links_go_on
pub use Rattle.m2_node.specs as m2_node
