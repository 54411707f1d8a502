use Rattle.m2_history.proofs.Whole.{bytes_fit_throughout}
use Rattle.m2_history.proofs.woven_laws.woven_bytes_fit.Goals as goal

pub returns : goal.returns
returns c = bytes_fit_throughout c.all_read_was_written.ensures c.asks_come_first.ensures c.orders_give_points.ensures c.trails_tell_each_point.ensures
