use Rattle.m2_links_go_on.proofs.woven_laws.links_are_woven_so.Goals as goal

pub returns : goal.returns
returns c = record {
  sides = c.records_are_sides.ensures;
  read = c.all_read_was_written.ensures;
  asked = c.asks_come_first.ensures;
  points = c.orders_give_points.ensures;
  counts = c.counts_are_of_the_items.ensures;
  bytes_fit = c.woven_bytes_fit.ensures;
  never_reset = c.woven_is_never_reset.ensures;
  delivered = c.woven_is_delivered.ensures;
  to_a_mark = c.woven_is_a_run_to_a_mark.ensures;
  in_order = c.woven_comes_in_order.ensures;
}
