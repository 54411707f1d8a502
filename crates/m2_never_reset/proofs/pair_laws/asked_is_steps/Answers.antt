use Rattle.m2_never_reset.proofs.Asked.{asked_is}
use Rattle.m2_never_reset.proofs.pair_laws.asked_is_steps.Goals as goal

pub returns : goal.returns
returns c = asked_is
