pub mod AnswerFronts
pub mod AnswerSizes
pub mod Answering
pub mod AnswersHeard
pub mod Begun
pub mod Beside
pub mod Bringing
pub mod Courses
pub mod Faults
pub mod FrameSizes
pub mod Framing
pub mod Fronts
pub mod Heeding
pub mod Lengths
pub mod Payloads
pub mod Puts
pub mod Putting
pub mod Shaking
pub mod Tags
pub mod Texts
pub use Rattle.m2_control.proofs as m2_control
pub use Rattle.m2_fabric.proofs as m2_fabric
pub use Rattle.m2_frame.proofs as m2_frame
pub use Rattle.m2_handshake.proofs as m2_handshake
pub use Rattle.m2_journal.proofs as m2_journal
pub use Rattle.m2_bytes.proofs.m2_lemmas as m2_lemmas
pub use Rattle.m2_message.proofs as m2_message
pub use Rattle.m2_session.proofs as m2_session
