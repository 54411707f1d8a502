-- One turn after the other.
use Rattle.m2_weave.proofs.Runs.{runs_are_woven}
use Rattle.m2_weave.proofs.turn_laws.runs_are_woven.Goals as goal

pub returns : goal.returns
returns c = runs_are_woven c.turns_are_woven.ensures
