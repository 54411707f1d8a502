use Rattle.m2_handshake.proofs.Messages.{little_kept}
use Rattle.m2_handshake.proofs.laws.a_waiting_half_keeps_little.Goals as goal

pub returns : goal.returns
returns c = little_kept
