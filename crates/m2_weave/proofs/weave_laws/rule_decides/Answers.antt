-- The lemma.
use Rattle.m2_weave.proofs.Deciding.{decides}
use Rattle.m2_weave.proofs.weave_laws.rule_decides.Goals as goal

pub returns : goal.returns
returns c = decides
