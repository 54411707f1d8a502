-- The deeds of a line are done in full where it succeeds.
use Rattle.std.proofs.Common.{ℕ, sym, subst}
use Rattle.m2_run_trace.specs.Acts.{CanDo}
use Rattle.m2_run_trace.proofs.Deeds.{does_if}
use Rattle.m2_run_trace.proofs.playing.do_line.Goals as goal
use Rattle.m2_promise.specs.m2_script.Script.{deeds_of}

pub line-requires : goal.line-requires
line-requires c = subst (λ (n : ℕ). CanDo (deeds_of c.args.scene.now.links.now n c.args.line) c.args.run.now) (sym c.args.scene.now.counted) c.requires

pub returns : goal.returns
returns c = does_if c.line.result _ c.args.run.now c.line.new.self (rw c.args.scene.now.counted at c.line.ensures)
