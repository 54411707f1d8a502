use Rattle.m2_never_reset.proofs.Lossless.{in_order}
use Rattle.m2_never_reset.proofs.pair_laws.messages_come_in_order.Goals as goal

pub returns : goal.returns
returns c = in_order c.cookies_are_mints.ensures c.lossless_is_in_order.ensures c.histories_are_runs.ensures
