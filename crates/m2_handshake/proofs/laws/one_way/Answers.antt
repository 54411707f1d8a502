use Rattle.m2_handshake.proofs.Course.{one_way}
use Rattle.m2_handshake.proofs.laws.one_way.Goals as goal

pub returns : goal.returns
returns c = one_way
