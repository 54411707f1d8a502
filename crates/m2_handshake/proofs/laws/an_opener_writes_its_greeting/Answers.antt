use Rattle.m2_handshake.proofs.Speaking.{opener_greets}
use Rattle.m2_handshake.proofs.laws.an_opener_writes_its_greeting.Goals as goal

pub returns : goal.returns
returns c = opener_greets
