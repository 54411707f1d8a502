pub mod Asks
pub mod CrossingLaws
pub mod Fits
pub mod Frames
pub mod Link
pub mod LinkOf
pub mod Mails
pub mod Order
pub mod Orders
pub mod PairLaws
pub mod Paired
pub mod Roles
pub mod Sessions
pub mod Steps
pub mod Trouble
pub use Rattle.m2_journal.specs.m2_fabric as m2_fabric
pub use Rattle.m2_journal.specs as m2_journal
pub use Rattle.m2_queues.specs as m2_queues
pub use Rattle.m2_session.specs as m2_session
