mod Deeds
mod EndsApart
mod First
mod Further
mod Going
mod Nodes
mod PlanLists
mod Plans
mod Records
mod Taken
pub mod Acting
pub mod Asking
pub mod Beside
pub mod BothEnds
pub mod Calls
pub mod Centers
pub mod ClusterActs
pub mod Doing
pub mod Ends
pub mod Example
pub mod Flowing
pub mod Hearing
pub mod Hears
pub mod Joined
pub mod Kept
pub mod KeptActing
pub mod KeptEnds
pub mod KeptHearing
pub mod KeptLists
pub mod Links
pub mod Lists
pub mod Logs
pub mod Lossy
pub mod Marks
pub mod Needs
pub mod Noted
pub mod Nothing
pub mod Openers
pub mod Orders
pub mod Pairs
pub mod Passing
pub mod Places
pub mod Ports
pub mod PostedPlans
pub mod PostsTowards
pub mod Prefixes
pub mod Promised
pub mod Resting
pub mod Same
pub mod Scripts
pub mod Sides
pub mod Starting
pub mod Tables
pub mod Towards
pub mod Turns
pub mod Ways
pub mod Whole
pub use Rattle.m2_links_go_on.proofs as m2_links_go_on
pub use Rattle.m2_script.proofs as m2_script
