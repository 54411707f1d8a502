use Rattle.m2_never_reset.proofs.Accepted.{accepted_is}
use Rattle.m2_never_reset.proofs.pair_laws.accepted_is_steps.Goals as goal

pub returns : goal.returns
returns c = accepted_is
