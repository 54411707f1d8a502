-- One link more.
use Rattle.std.proofs.Common.{◌+◌, drop, get_or, ap}
use Rattle.std.specs.List.{flat_map}
use Rattle.m2_run_trace.proofs.Deeds.{can_next, some_first, some_last, some_next}
use Rattle.m2_run_trace.proofs.playing.flow_all.Goals as goal
use Rattle.m2_promise.specs.m2_script.Script.{both_flow}
use Rattle.m2_promise.proofs.m2_script.Splits.{next_flows, no_link, none_past}

pub links-init : goal.links-init
links-init c = some_first (flat_map both_flow c.args.scene.now.links.now) c.args.run.now c.requires

pub flow_over-requires : goal.flow_over-requires
flow_over-requires c =
    let l = c.links in
    let links = c.args.scene.now.links.now in
    can_next (flat_map both_flow links) (flat_map both_flow (drop l.place links)) (both_flow (get_or links l.place no_link)) (flat_map both_flow (drop (l.place + 1) links))
    c.args.run.now l.run (next_flows links l.place c.links-test.true) l.invariant

pub links-preserved : goal.links-preserved
links-preserved c =
    let l = c.links in
    let links = c.args.scene.now.links.now in
    some_next (flat_map both_flow links) (flat_map both_flow (drop l.place links)) (both_flow (get_or links l.place no_link)) (flat_map both_flow (drop (l.place + 1) links))
    c.args.run.now l.run (next_flows links l.place c.links-test.true) l.invariant c.flow_over.new.run c.in_ok-flow_over.ensures

pub returns : goal.returns
returns c =
    let l = c.links in
    let links = c.args.scene.now.links.now in
    some_last (flat_map both_flow links) (flat_map both_flow (drop l.place links)) c.args.run.now l.run (ap (flat_map both_flow) (none_past links l.place c.links-test.false)) l.invariant
