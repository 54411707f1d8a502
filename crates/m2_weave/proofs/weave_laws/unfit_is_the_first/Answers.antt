-- The lemma.
use Rattle.m2_weave.proofs.Naming.{is_the_first}
use Rattle.m2_weave.proofs.weave_laws.unfit_is_the_first.Goals as goal

pub returns : goal.returns
returns c = is_the_first
