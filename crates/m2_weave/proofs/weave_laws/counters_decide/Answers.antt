-- The lemma.
use Rattle.m2_weave.proofs.Counting.{decide}
use Rattle.m2_weave.proofs.weave_laws.counters_decide.Goals as goal

pub returns : goal.returns
returns c = decide
