use Rattle.m2_never_reset.proofs.Plans.{dials_are}
use Rattle.m2_never_reset.proofs.pair_laws.dials_are_no_steps.Goals as goal

pub returns : goal.returns
returns c = dials_are
