use Rattle.m2_channel.proofs.LossyOrders.{comes_in_order}
use Rattle.m2_channel.proofs.laws.lossy_comes_in_order.Goals as goal

pub returns : goal.returns
returns c = comes_in_order c.replays_are_sound.ensures
