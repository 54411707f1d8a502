-- Nothing was granted to the last of those that are left.
use Rattle.std.proofs.Common.{subst}
use Rattle.std.specs.List.{AllByRecursion}
use Rattle.m2_links_go_on.specs.Made.{IsBegun}
use Rattle.m2_node.proofs.Plans.{before_last, begun_owns}
use Rattle.m2_node.proofs.records.throw_away_records.Goals as goal

pub ends-ends-requires-clause-owned : goal.ends-ends-requires-clause-owned
ends-ends-requires-clause-owned g c = begun_owns _ c.in-Some.side (before_last IsBegun c.pop.new.self.items c.in-Some.side (subst (AllByRecursion IsBegun) c.in-Some.ensures.items c.records.invariant.begun)).1

pub records-preserved : goal.records-preserved
records-preserved g c = record {
  passes = c.ends-ends.ensures.passes;
  begun = (before_last IsBegun c.pop.new.self.items c.in-Some.side (subst (AllByRecursion IsBegun) c.in-Some.ensures.items c.records.invariant.begun)).0;
}
