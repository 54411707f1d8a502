use Rattle.m2_handshake.proofs.Reaching.{at_its_course}
use Rattle.m2_handshake.proofs.laws.a_rest_is_computed.Goals as goal

pub returns : goal.returns
returns c = at_its_course
