-- The one record that is towards the step's peer takes it, if there is one.
use Rattle.std.proofs.Common.{subst}
use Rattle.m2_node.specs.Planned.{NoneTowards}
use Rattle.m2_node.proofs.Plans.{none_takes, one_planned}
use Rattle.m2_node.proofs.StepLists.{on_ok_so}
use Rattle.m2_node.proofs.records.plan_step.Goals as goal

pub returns-in-None-clause-ok : goal.returns-in-None-clause-ok
returns-in-None-clause-ok g c = none_takes c.args.step c.args.records.now.items (subst (NoneTowards c.args.step.peer) c.as_slice.ensures.value (c.place_towards.ensures.none c.in-None.is))

pub returns-in-Some-clause-ok : goal.returns-in-Some-clause-ok
returns-in-Some-clause-ok g c =
    on_ok_so c.add_step.result _ _
    (λ e. one_planned c.args.step c.as_slice.result.now c.args.records.now.items c.in-Some.place c.index_mut.result.now c.add_step.new.side c.as_slice.ensures.value c.requires.peers c.in-Some.ensures.place
    c.index_mut.ensures.value e) c.add_step.ensures.ok
