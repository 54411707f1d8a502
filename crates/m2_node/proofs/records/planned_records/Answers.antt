-- The records are begun over the links, and then planned.
use Rattle.std.proofs.Common.{ap, ◌∙◌, ◌++◌}
use Rattle.m2_links_go_on.specs.Made.{side_made}
use Rattle.m2_script.specs.m2_record.RecordNow.{RecordNow}
use Rattle.m2_script.specs.Laws.{bare}
use Rattle.m2_node.specs.Planned.{IsPlannedBy, plan_of}
use Rattle.m2_node.proofs.NewRecords.{are_begun, bare_of, peers_of, sides_of}
use Rattle.m2_node.proofs.Plans.{map_by}
use Rattle.m2_node.proofs.records.planned_records.Goals as goal

pub plan_steps-requires-clause-peers : goal.plan_steps-requires-clause-peers
plan_steps-requires-clause-peers g c =
    peers_of c.args.nodes.now c.args.links.now c.args.number c.args.home.now.centers c.args.home.now.center c.args.word c.in_ok-records.records.items c.in_ok-records.ensures c.requires.peers

pub plan_steps-requires-clause-begun : goal.plan_steps-requires-clause-begun
plan_steps-requires-clause-begun g c = are_begun c.args.nodes.now c.args.links.now c.args.number c.args.home.now.centers c.args.home.now.center c.args.word c.in_ok-records.records.items c.in_ok-records.ensures

pub returns-in-Ok-clause-bare : goal.returns-in-Ok-clause-bare
returns-in-Ok-clause-bare g c =
    map_by (IsPlannedBy c.args.steps.items) bare bare (λ x y e. ap bare e) c.in_ok-records.records.items c.plan_steps.new.records.items c.in-Ok.ensures.ok
    ∙ bare_of c.args.nodes.now c.args.links.now c.args.number c.args.home.now.centers c.args.home.now.center c.args.word c.in_ok-records.records.items c.in_ok-records.ensures

pub returns-in-Ok-clause-sides : goal.returns-in-Ok-clause-sides
returns-in-Ok-clause-sides g c =
    map_by (IsPlannedBy c.args.steps.items) (λ (r : RecordNow). record (side_made r) { plan = r.plan ++ plan_of c.args.steps.items r.place }) side_made (λ x y e. ap side_made e)
    c.in_ok-records.records.items c.plan_steps.new.records.items c.in-Ok.ensures.ok
    ∙ sides_of c.args.nodes.now c.args.links.now c.args.number c.args.home.now.centers c.args.home.now.center c.args.word c.in_ok-records.records.items c.in_ok-records.ensures (plan_of c.args.steps.items)
