use Rattle.m2_never_reset.proofs.Acked.{acked_is}
use Rattle.m2_never_reset.proofs.pair_laws.acked_is_steps.Goals as goal

pub returns : goal.returns
returns c = acked_is
