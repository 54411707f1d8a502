use Rattle.m2_promise.proofs.Same.{stays_at}
use Rattle.m2_promise.proofs.passing_laws.hearing_stays_at.Goals as goal

pub returns : goal.returns
returns c = stays_at
