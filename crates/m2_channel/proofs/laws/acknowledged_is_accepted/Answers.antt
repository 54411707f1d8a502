use Rattle.m2_channel.proofs.Acknowledged.{was_accepted}
use Rattle.m2_channel.proofs.laws.acknowledged_is_accepted.Goals as goal

pub returns : goal.returns
returns c = was_accepted c.lossless_is_never_reset.ensures
