pub mod Begins
pub mod Counting
pub mod Dispatching
pub mod Ends
pub mod Handing
pub mod Homes
pub mod Lists
pub mod Nodes
pub mod Planned
pub mod Ports
pub mod Posts
pub mod Rooms
pub mod Sharing
pub mod Watching
pub mod Way
pub mod WayLaws
pub mod Working
pub use Rattle.m2_links_go_on.specs as m2_links_go_on
pub use Rattle.m2_script.specs as m2_script
