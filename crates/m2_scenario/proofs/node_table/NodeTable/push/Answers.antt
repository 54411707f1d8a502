use Rattle.std.proofs.Common.{◌∙◌, ap, cond, true}
use Rattle.m2_scenario.specs.Draft.{is_at}
use Rattle.m2_scenario.proofs.Nodes.{look_ups_pushed, look_ups_reordered}
use Rattle.m2_scenario.proofs.node_table.NodeTable.push.Goals as goal

pub invariant_of-self-in_err-insert : goal.invariant_of-self-in_err-insert
invariant_of-self-in_err-insert c =
    let t = c.self.inside in
    rw (c.in_ok-reserve.ensures.items, c.in_err-insert.ensures.err)
    (look_ups_reordered t.nodes.items t.places.entries t.sockets.keys c.reserve-2.new.self.keys c.self.invariant (λ at. c.in_ok-reserve-2.ensures.keys.2 (at.ip, at.port)))

pub invariant_of-self-2 : goal.invariant_of-self-2
invariant_of-self-2 c =
    let t = c.self.inside in
    rw (c.in_ok-push.ensures.items, c.in_ok-reserve.ensures.items)
    (look_ups_pushed t.nodes.items c.args.node c.in_ok-name.name.items c.len.result t.places.entries c.insert.new.self.entries t.sockets.keys c.insert-2.new.self.keys c.self.invariant
    (rw (← c.self.view_is) at c.requires)
    (c.in_ok-name.ensures.items ∙ c.as_slice.ensures.bytes)
    (c.len.ensures ∙ c.in_ok-reserve.ensures.len ∙ t.nodes.ok.0)
    c.in_ok-insert.ensures.updates.1
    c.in_ok-insert.ensures.updates.3
    (λ at. c.in_ok-insert-2.ensures.updates.0 (at.ip, at.port) ∙ ap (cond (is_at at c.args.node) true) (c.in_ok-reserve-2.ensures.keys.2 (at.ip, at.port))))
