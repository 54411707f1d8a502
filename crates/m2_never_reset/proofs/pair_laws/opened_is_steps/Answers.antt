use Rattle.m2_never_reset.proofs.Opened.{opened_is}
use Rattle.m2_never_reset.proofs.pair_laws.opened_is_steps.Goals as goal

pub returns : goal.returns
returns c = opened_is
