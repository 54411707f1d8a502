-- The acts of the lines that the iterator has still, and of the text that is left, are left.
use Rattle.m2_run_trace.specs.Acts.{acts_of}
use Rattle.m2_run_trace.proofs.Acts.{IsAmid}
use Rattle.m2_run_trace.proofs.playing.play_all.Given as goal
use Rattle.m2_scenario.specs.Text.{pieces}

abbrev pub invariant-loop-line : goal.invariant-loop-line
invariant-loop-line l =
    let acts = acts_of l.scene.nodes.now l.scene.links.now in
    IsAmid l.scene.nodes.now (acts (pieces 10 l.text) l.fn.lines.items) (acts (pieces 10 l.rest) l.line-iterator.rest.items) l.fn.stage l.stage
