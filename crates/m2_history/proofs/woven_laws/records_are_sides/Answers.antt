use Rattle.m2_history.proofs.Whole.{records_are_sides}
use Rattle.m2_history.proofs.woven_laws.records_are_sides.Goals as goal

pub returns : goal.returns
returns c = records_are_sides
