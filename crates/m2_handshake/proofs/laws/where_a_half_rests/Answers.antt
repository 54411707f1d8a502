use Rattle.m2_handshake.proofs.Course.{rests_there}
use Rattle.m2_handshake.proofs.Reaching.{at_rest}
use Rattle.m2_handshake.proofs.laws.where_a_half_rests.Goals as goal

pub returns-clause-there : goal.returns-clause-there
returns-clause-there c = rests_there

pub returns-clause-answered : goal.returns-clause-answered
returns-clause-answered c = at_rest
