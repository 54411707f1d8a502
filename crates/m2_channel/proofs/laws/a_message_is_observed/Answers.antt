use Rattle.m2_channel.proofs.OneMessage.{is_observed}
use Rattle.m2_channel.proofs.laws.a_message_is_observed.Goals as goal

pub returns : goal.returns
returns c = is_observed c.lossless_is_never_reset.ensures c.a_message_comes_over.ensures
