-- An order of all, or a stop.
use Rattle.std.proofs.Common.{◌∙◌, refl, sym, ap, length}
use Rattle.m2_history.proofs.Orders.{history_comes, no_order, places}
use Rattle.m2_history.proofs.weaving.weave_rows.Goals as goal

pub returns-then-found : goal.returns-then-found
returns-then-found c =
    history_comes c.history_of.result c.args.strands.now _ c.args.rows.now _ _ _ _ _ c.in-Ok.ensures
    (record { greedy = c.in-Ok-weave.ensures.greedy; places = c.in-Ok-weave.ensures.at; decides = c.in-Ok-weave.ensures.whole }) c.if-found.true c.as_slice.ensures refl
    c.history_of.ensures

pub first_stop-requires : goal.first_stop-requires
first_stop-requires c = record {
  count = ap length c.as_slice-2.ensures
      ∙ places c.args.strands.now _ _ _ _ (record { greedy = c.in-Ok-weave.ensures.greedy; places = c.in-Ok-weave.ensures.at; decides = c.in-Ok-weave.ensures.whole });
}

pub returns-in-Ok-Some : goal.returns-in-Ok-Some
returns-in-Ok-Some c =
    no_order c.a_stop_is_no_order.ensures c.args.strands.now _ c.args.rows.now _ _ _ _ _ c.in-Ok.ensures
    (record { greedy = c.in-Ok-weave.ensures.greedy; places = c.in-Ok-weave.ensures.at; decides = c.in-Ok-weave.ensures.whole }) c.if-found.false c.as_slice-2.ensures
    (sym c.in-Ok-Some.field-0-is ∙ c.in-Ok-Some.ensures)

pub returns-in-Ok-None : goal.returns-in-Ok-None
returns-in-Ok-None c =
    no_order c.a_stop_is_no_order.ensures c.args.strands.now _ c.args.rows.now _ _ _ _ _ c.in-Ok.ensures
    (record { greedy = c.in-Ok-weave.ensures.greedy; places = c.in-Ok-weave.ensures.at; decides = c.in-Ok-weave.ensures.whole }) c.if-found.false c.as_slice-2.ensures
    (sym c.in-Ok-None.field-0-is ∙ c.in-Ok-None.ensures)
