pub mod Dispatch
pub mod Heard
pub mod Laws
pub mod Letters
pub mod Parcel
pub mod Turn
pub mod Waiting
pub use Rattle.m2_message.specs.m2_frame as m2_frame
pub use Rattle.m2_message.specs as m2_message
pub use Rattle.m2_policy.specs as m2_policy
pub use Rattle.m2_queues.specs as m2_queues
pub use Rattle.m2_shared.specs as m2_shared
