use Rattle.m2_handshake.proofs.Resting.{rests_exactly}
use Rattle.m2_handshake.proofs.laws.a_half_at_rest_answers_not_yet.Goals as goal

pub returns : goal.returns
returns c = rests_exactly
