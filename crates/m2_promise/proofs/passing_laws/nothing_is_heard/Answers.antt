use Rattle.m2_promise.proofs.Nothing.{flows_nothing, hears_nothing}
use Rattle.m2_promise.proofs.passing_laws.nothing_is_heard.Goals as goal

pub returns : goal.returns
returns c = record { hears = hears_nothing; flows = flows_nothing }
