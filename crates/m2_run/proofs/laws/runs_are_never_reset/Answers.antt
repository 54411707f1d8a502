-- The lemma.
use Rattle.m2_run.proofs.Joined.{runs_never_reset}
use Rattle.m2_run.proofs.laws.runs_are_never_reset.Goals as goal

pub returns : goal.returns
returns g c = runs_never_reset _ _
