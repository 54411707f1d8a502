use Rattle.m2_scenario.proofs.Counted.{stopped}
use Rattle.m2_scenario.proofs.Nodes.{look_ups_without}
use Rattle.m2_scenario.proofs.node_table.NodeTable.stop.Goals as goal

pub invariant_of-self : goal.invariant_of-self
invariant_of-self c =
    let t = c.self.inside in
    look_ups_without t.nodes.items c.args.a c.index_mut.result.now t.places.entries t.sockets.keys c.self.invariant (rw (← c.self.view_is) at c.requires) c.index_mut.ensures.value

pub returns : goal.returns
returns c = rw (← c.self.view_is) (stopped c.self.inside.nodes.items c.args.a c.index_mut.result.now (rw (← c.self.view_is) at c.requires) c.index_mut.ensures.value)
