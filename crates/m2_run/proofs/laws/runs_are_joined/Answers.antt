-- The lemma.
use Rattle.m2_run.proofs.Joined.{runs_joined}
use Rattle.m2_run.proofs.laws.runs_are_joined.Goals as goal

pub returns : goal.returns
returns g c = runs_joined _ _
