-- What a node keeps, and what its center does.
use Rattle.std.proofs.Common.{IsSome, subst}
use Rattle.std.specs.List.{AllByRecursion}
use Rattle.m2_center.specs.Center.{IsCenter}
use Rattle.m2_center.specs.Reaching.{all_ends_in}
use Rattle.m2_cluster.specs.Node.{IsNode, NodeNow}
use Rattle.m2_fabric.specs.Kinds.{IsInMemory}
use Rattle.m2_fabric.specs.Sockets.{IsOfHome}
use Rattle.m2_center.specs.m2_record.IsRecord.{IsRecord}
use Rattle.m2_center.specs.m2_turn.Halves.{AreWhole}
use Rattle.m2_cluster.proofs.node.Node.is_whole.Goals as goal

pub returns : goal.returns
returns g c = record {
  node = subst IsNode c.self.view_is c.self.invariant;
  center = subst (λ (n : NodeNow g.row.D.Denot). IsCenter n.center) c.self.view_is c.is_center.ensures.center;
  records = subst (λ (n : NodeNow g.row.D.Denot). AllByRecursion IsRecord n.center.records) c.self.view_is c.is_center.ensures.records;
  halves = subst (λ (n : NodeNow g.row.D.Denot). AreWhole n.center.halves) c.self.view_is c.is_center.ensures.halves;
  home = subst (λ (n : NodeNow g.row.D.Denot). AllByRecursion (IsOfHome n.center.port.at) n.center.port.made) c.self.view_is c.comes_from_home.ensures;
  port = subst (λ (n : NodeNow g.row.D.Denot). IsSome n.center.port.waiting) c.self.view_is c.is_in_memory.ensures.port;
  memory = subst (λ (n : NodeNow g.row.D.Denot). AllByRecursion IsInMemory (all_ends_in n.center)) c.self.view_is c.is_in_memory.ensures.ends;
}
