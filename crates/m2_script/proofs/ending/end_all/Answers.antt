-- One node more.
use Rattle.std.proofs.Common.{◌∙◌, ap, [], ◌∷◌, length, length-append, arith}
use Rattle.m2_script.proofs.Nodes.{one_more_ended}
use Rattle.m2_script.proofs.ending.end_all.Goals as goal

pub nodes-preserved : goal.nodes-preserved
nodes-preserved g c =
    let l = c.nodes in
    let nodes = c.in-Some.ensures.last in
    record {
      all = one_more_ended l.cluster.nodes c.pop.new.self.nodes c.in-Some.node l.all.items c.push_reserved.new.self.items c.end_node.result nodes c.push_reserved.ensures.items c.end_node.ensures ∙ l.invariant.all;
      room = omega (arith, l.invariant.room, c.push_reserved.ensures.len, c.push_reserved.ensures.capacity, ap length nodes, length-append c.pop.new.self.nodes (c.in-Some.node ∷ []));
    }
