-- What the steps that are left plan is to come, and each of them can be taken.
use Rattle.std.specs.List.{AllByRecursion}
use Rattle.m2_links_go_on.specs.Made.{IsBegun}
use Rattle.m2_links_go_on.specs.ClusterTold.{OneByOne}
use Rattle.m2_links_go_on.specs.Logged.{AreOfTheirPeers}
use Rattle.m2_node.specs.Planned.{IsSendableStep}
use Rattle.m2_node.proofs.Plans.{PlannedSoFar}
use Rattle.m2_node.proofs.records.plan_steps.Given as goal

abbrev pub invariant-steps : goal.invariant-steps
invariant-steps g l = record {
  peers : AreOfTheirPeers l.records.items;
  begun : AllByRecursion IsBegun l.records.items;
  left : AllByRecursion IsSendableStep l.step-iterator.rest.items;
  planned : OneByOne (PlannedSoFar l.step-iterator.rest.items l.fn.steps.items) l.fn.records.items l.records.items;
}
