-- A step that is planned leaves the passes to what the node shares.
use Rattle.std.proofs.Common.{ap, ◌∙◌}
use Rattle.m2_center.specs.Center.{CenterNow}
use Rattle.m2_cluster.proofs.Doing.{plans_so}
use Rattle.m2_cluster.proofs.node.Node.plan.Goals as goal

pub invariant_of-self : goal.invariant_of-self
invariant_of-self g c =
    let was = c.self.invariant in
    record {
      numbers = ap (λ (n : CenterNow g.row.D.Denot). n.numbers.place) c.plan.ensures.plans.only ∙ was.numbers;
      throttles = c.plan.ensures.plans.bytes ∙ was.throttles;
    }

pub returns : goal.returns
returns g c = plans_so _ _ c.self.view_is c.plan.new.self c.plan.result c.args.peer c.args.step c.args.now c.plan.ensures.plans
