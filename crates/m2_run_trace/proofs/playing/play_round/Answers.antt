-- The flows, and then the turns.
use Rattle.std.proofs.Common.{OnOk, length, refl, sym, subst}
use Rattle.std.specs.List.{flat_map}
use Rattle.m2_run_trace.specs.Acts.{CanPlay, PlaysAll, StageNow, deeds_in, flow_act, round_acts, turn_acts}
use Rattle.m2_run_trace.proofs.Acts.{plays_then}
use Rattle.m2_run_trace.proofs.Deeds.{can_behind, can_first}
use Rattle.m2_run_trace.proofs.playing.play_round.Goals as goal
use Rattle.m2_promise.specs.m2_script.Script.{both_flow}

pub flow_all-requires : goal.flow_all-requires
flow_all-requires c =
    let nodes = c.args.scene.now.nodes.now in
    let links = c.args.scene.now.links.now in
    can_first (flat_map both_flow links) (deeds_in (turn_acts nodes 0 (length nodes))) c.stage.inside.run
    (subst (λ (s : StageNow). CanPlay (round_acts nodes links) s.run) (sym c.stage.view_is) c.requires)

pub turn_all-requires : goal.turn_all-requires
turn_all-requires c =
    let nodes = c.args.scene.now.nodes.now in
    let links = c.args.scene.now.links.now in
    can_behind (flat_map both_flow links) (deeds_in (turn_acts nodes 0 (length nodes))) c.stage.inside.run c.flow_all.new.run c.in_ok-flow_all.ensures
    (subst (λ (s : StageNow). CanPlay (round_acts nodes links) s.run) (sym c.stage.view_is) c.requires)

pub returns : goal.returns
returns c =
    let nodes = c.args.scene.now.nodes.now in
    let links = c.args.scene.now.links.now in
    let before : StageNow = record { run = c.stage.inside.run; sockets = c.stage.inside.sockets.items; text = c.stage.inside.out.bytes } in
    let between : StageNow = record { run = c.flow_all.new.run; sockets = c.stage.inside.sockets.items; text = c.put_settle.new.out.bytes } in
    subst (λ (s : StageNow). OnOk c.turn_all.result (PlaysAll nodes (round_acts nodes links) s c.turn_all.new.stage)) c.stage.view_is
    (plays_then nodes c.turn_all.result (flow_act links) (turn_acts nodes 0 (length nodes)) before between c.turn_all.new.stage
    (record { does = c.in_ok-flow_all.ensures; text = c.in_ok-put_settle.ensures; sockets = refl }) c.turn_all.ensures)
