pub mod ByRank
pub mod Due
pub mod InNumbers
pub mod KeptLine
pub mod KeptLineFields
pub mod OutQueues
pub mod OutQueuesFields
pub mod PriorityLaws
pub mod PriorityQueue
pub mod PriorityQueueFields
pub mod QueueLaws
pub mod StableHeapFields
pub use Rattle.m2_message.specs.m2_crc as m2_crc
pub use Rattle.m2_message.specs.m2_frame as m2_frame
pub use Rattle.m2_message.specs as m2_message
