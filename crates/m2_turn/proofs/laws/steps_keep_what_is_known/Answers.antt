use Rattle.m2_turn.proofs.GoesOn.{steps}
use Rattle.m2_turn.proofs.Known.{steps_known}
use Rattle.m2_turn.proofs.laws.steps_keep_what_is_known.Goals as goal

pub returns : goal.returns
returns c a answer w old new was is step known = steps_known a old new (steps answer w old new step) was is known
