use Rattle.m2_promise.proofs.Starting.{unused}
use Rattle.m2_promise.proofs.beginning_laws.new_records_are_unused.Goals as goal

pub returns : goal.returns
returns c = unused
