-- The turns of the nodes from this one on are left.
use Rattle.std.proofs.Common.{◌-◌, length}
use Rattle.m2_run_trace.specs.Acts.{turn_acts}
use Rattle.m2_run_trace.proofs.Acts.{IsAmid}
use Rattle.m2_run_trace.proofs.playing.turn_all.Given as goal

abbrev pub invariant-nodes : goal.invariant-nodes
invariant-nodes l =
    let nodes = l.scene.nodes.now in
    IsAmid nodes (turn_acts nodes 0 (length nodes)) (turn_acts nodes l.node (length nodes - l.node)) l.fn.stage l.stage
