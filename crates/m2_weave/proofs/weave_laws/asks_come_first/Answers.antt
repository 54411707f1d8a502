-- The lemma.
use Rattle.m2_weave.proofs.Along.{come_first}
use Rattle.m2_weave.proofs.weave_laws.asks_come_first.Goals as goal

pub returns : goal.returns
returns c = come_first
