use Rattle.m2_never_reset.proofs.Wrote.{wrote_is}
use Rattle.m2_never_reset.proofs.pair_laws.wrote_is_steps.Goals as goal

pub returns : goal.returns
returns c = wrote_is
