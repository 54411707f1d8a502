-- The lemma of the same name.
use Rattle.m2_weave.proofs.Furthest.{stuck_is_the_end}
use Rattle.m2_weave.proofs.merge_laws.stuck_is_the_end.Goals as goal

pub returns : goal.returns
returns c = stuck_is_the_end
