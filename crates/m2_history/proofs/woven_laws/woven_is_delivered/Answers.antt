use Rattle.m2_history.proofs.Whole.{delivered}
use Rattle.m2_history.proofs.woven_laws.woven_is_delivered.Goals as goal

pub returns : goal.returns
returns c =
    delivered c.all_read_was_written.ensures c.asks_come_first.ensures c.orders_give_points.ensures c.trails_tell_each_point.ensures c.woven_is_never_reset.ensures c.posted_is_delivered.ensures
