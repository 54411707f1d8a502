pub mod Growing
pub mod Splitting
pub mod Sessions
pub mod Lives
pub mod Paying
pub mod Answering
pub mod Pair
pub mod Written
pub mod OneMessage
pub mod BrokenSocket
pub mod Idents
pub mod Cookies
pub mod Eventful
pub mod Fed
pub mod Drawn
pub mod Sockets
pub mod Held
pub mod Sound
pub mod JudgedOn
pub use Rattle.m2_fabric.proofs as m2_fabric
pub use Rattle.m2_handshake.proofs as m2_handshake
pub use Rattle.m2_bytes.proofs.m2_lemmas as m2_lemmas
pub use Rattle.m2_queues.proofs as m2_queues
pub mod SameFeed
pub mod Short
