use Rattle.m2_handshake.proofs.Signing.{signs_once}
use Rattle.m2_handshake.proofs.laws.it_signs_once.Goals as goal

pub returns : goal.returns
returns c = signs_once
