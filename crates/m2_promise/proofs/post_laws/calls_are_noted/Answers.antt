-- The lemma.
use Rattle.m2_promise.proofs.Noted.{calls_noted}
use Rattle.m2_promise.proofs.post_laws.calls_are_noted.Goals as goal

pub returns : goal.returns
returns g c = calls_noted g.row.P-End.Denot
