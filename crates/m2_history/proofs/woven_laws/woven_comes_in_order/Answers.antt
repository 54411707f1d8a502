use Rattle.m2_history.proofs.Whole.{comes_in_order}
use Rattle.m2_history.proofs.woven_laws.woven_comes_in_order.Goals as goal

pub returns : goal.returns
returns c =
    comes_in_order c.all_read_was_written.ensures c.asks_come_first.ensures c.orders_give_points.ensures c.trails_tell_each_point.ensures c.woven_bytes_fit.ensures c.lossy_comes_in_order.ensures
    c.counts_are_of_the_items.ensures
