use Rattle.m2_never_reset.proofs.Obeyed.{obeyed_is}
use Rattle.m2_never_reset.proofs.pair_laws.obeyed_is_steps.Goals as goal

pub returns : goal.returns
returns c = obeyed_is
