-- The nodes are made as the scenario says, and have done nothing; no listen had a fault.
use Rattle.std.proofs.Common.{◌∙◌}
use Rattle.m2_node.specs.Planned.{steps_in}
use Rattle.m2_node.proofs.HandedOn.{nothing_handed}
use Rattle.m2_node.proofs.NodesBegin.{nodes_begin}
use Rattle.m2_run.proofs.Listens.{out_behind_listens}
use Rattle.m2_run.proofs.beginning.begin.Goals as goal

pub returns-in-Ok-clause-nodes : goal.returns-in-Ok-clause-nodes
returns-in-Ok-clause-nodes g c =
    nodes_begin _ g.C.Clock.may_give c.args.clock.now c.centers_begin_on_course.ensures c.begin_logged.ensures c.begin_of_peers.ensures c.new_records_can_begin.ensures c.now-start.result c.now-start.ensures.moment
    c.args.nodes.now c.args.links.now c.args.lines.items c.requires.sound c.args.shares.now c.in-Ok.workers.items c.in-Ok.ensures.nodes c.in-Ok.ensures.workers.groups

pub returns-in-Ok-clause-out : goal.returns-in-Ok-clause-out
returns-in-Ok-clause-out g c =
    out_behind_listens c.args.nodes.now (g.F.Fabric.seen c.args.fabric.now) (g.F.Fabric.seen c.listen_all.new.fabric) (g.F.Fabric.seen c.begin_listening.new.fabric) c.in_default.ensures.ok c.in-Ok.ensures.out

pub returns-in-Ok-clause-none : goal.returns-in-Ok-clause-none
returns-in-Ok-clause-none g c =
    nothing_handed c.args.nodes.now c.args.links.now (steps_in c.args.lines.items) 0 c.args.nodes.now c.args.shares.now c.in-Ok.workers.items c.in-Ok.ensures.workers.groups c.in-Ok.ensures.nodes

pub returns-in-Ok-clause-faults : goal.returns-in-Ok-clause-faults
returns-in-Ok-clause-faults g c = c.begin_listening.ensures.faults ∙ c.in_default.ensures.ok.faults

pub returns-in-Err-begin_listening-clause-err : goal.returns-in-Err-begin_listening-clause-err
returns-in-Err-begin_listening-clause-err g c = c.begin_listening.ensures.faults ∙ c.in_default.ensures.ok.faults
