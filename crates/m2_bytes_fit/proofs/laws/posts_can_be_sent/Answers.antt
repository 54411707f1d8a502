-- The lemma.
use Rattle.m2_bytes_fit.proofs.Posts.{sendable_keeps}
use Rattle.m2_bytes_fit.proofs.laws.posts_can_be_sent.Goals as goal

pub returns : goal.returns
returns c = sendable_keeps
