-- So many rounds are left.
use Rattle.std.proofs.Common.{◌-◌}
use Rattle.m2_run_trace.specs.Acts.{rounds_acts}
use Rattle.m2_run_trace.proofs.Acts.{IsAmid}
use Rattle.m2_run_trace.proofs.playing.play_rounds.Given as goal

abbrev pub invariant-rounds : goal.invariant-rounds
invariant-rounds l =
    let acts = rounds_acts l.scene.nodes.now l.scene.links.now in
    IsAmid l.scene.nodes.now (acts l.rounds) (acts (l.rounds - l.counter)) l.fn.stage l.stage
