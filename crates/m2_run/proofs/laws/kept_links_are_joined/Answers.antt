-- The lemma.
use Rattle.m2_run.proofs.Joined.{kept_joined}
use Rattle.m2_run.proofs.laws.kept_links_are_joined.Goals as goal

pub returns : goal.returns
returns g c = kept_joined _ _
