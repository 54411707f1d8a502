use Rattle.m2_growth.proofs.InStepStanding.{stands_same, stands_then, waits_still}
use Rattle.m2_growth.proofs.in_step_laws.standing_goes_on.Goals as goal

pub returns : goal.returns
returns c = record { same = stands_same; goes_on = stands_then; waits = waits_still }
