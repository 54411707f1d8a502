use Rattle.m2_channel.proofs.Observing.{observed_is}
use Rattle.m2_channel.proofs.laws.observed_is_a_run.Goals as goal

pub returns : goal.returns
returns c = observed_is c.lossless_is_never_reset.ensures
