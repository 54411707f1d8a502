use Rattle.m2_channel.proofs.TwoWays.{logs_are}
use Rattle.m2_channel.proofs.laws.logs_are_logs_of_what_is_handed_on.Goals as goal

pub returns : goal.returns
returns c = logs_are (record { whole = c.each_key_keeps_its_order.ensures.whole; ever = c.each_key_keeps_its_order.ensures.ever })
