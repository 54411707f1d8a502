-- The lemma.
use Rattle.m2_weave.proofs.Staying.{stays_met}
use Rattle.m2_weave.proofs.weave_laws.rule_stays_met.Goals as goal

pub returns : goal.returns
returns c = stays_met
