use Rattle.m2_never_reset.proofs.Closed.{closed_is}
use Rattle.m2_never_reset.proofs.pair_laws.closed_is_steps.Goals as goal

pub returns : goal.returns
returns c = closed_is
