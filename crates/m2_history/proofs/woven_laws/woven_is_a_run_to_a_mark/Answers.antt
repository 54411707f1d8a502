use Rattle.m2_history.proofs.Marked.{a_run_to_a_mark}
use Rattle.m2_history.proofs.woven_laws.woven_is_a_run_to_a_mark.Goals as goal

pub returns : goal.returns
returns c =
    a_run_to_a_mark c.all_read_was_written.ensures c.asks_come_first.ensures c.orders_give_points.ensures c.trails_tell_each_point.ensures c.woven_bytes_fit.ensures c.bytes_give_fits.ensures
    c.lossless_bytes_are_never_reset.ensures c.observed_is_a_run.ensures c.observed_is_a_run_to_a_mark.ensures c.counts_are_of_the_items.ensures
