-- The node with the number plans a step.
use Rattle.m2_center.specs.Plans.{IsReadyFor}
use Rattle.m2_cluster.specs.Node.{NodePlans}
use Rattle.m2_cluster.proofs.Doing.{of_it, one_does}
use Rattle.m2_cluster.proofs.cluster.Cluster.plan.Goals as goal

pub plan-requires-clause-ready : goal.plan-requires-clause-ready
plan-requires-clause-ready g c =
    of_it _ _ c.self.view_is c.args.node c.index_mut.result.now c.index_mut.ensures.value c.requires.node (λ n. IsReadyFor c.args.peer n.center.records) c.requires.ready

pub returns : goal.returns
returns g c =
    one_does _ _ c.self.view_is c.args.node c.index_mut.result.now c.index_mut.ensures.value c.requires.node
    (NodePlans c.plan.result c.args.peer c.args.step c.args.now) c.plan.new.self c.plan.ensures
