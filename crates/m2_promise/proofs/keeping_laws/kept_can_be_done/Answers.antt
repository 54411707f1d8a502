use Rattle.m2_promise.proofs.Needs.{can_be}
use Rattle.m2_promise.proofs.keeping_laws.kept_can_be_done.Goals as goal

pub returns : goal.returns
returns g c = can_be
