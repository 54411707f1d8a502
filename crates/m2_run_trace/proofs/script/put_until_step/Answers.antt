-- A line that is played.
use Rattle.std.proofs.Common.{sym, ap, ◌∙◌}
use Rattle.m2_run_trace.specs.Script.{is_played}
use Rattle.m2_run_trace.proofs.TextLines.{behind_played}
use Rattle.m2_run_trace.proofs.script.put_until_step.Goals as goal

pub returns-then-is_played-clause-rest : goal.returns-then-is_played-clause-rest
returns-then-is_played-clause-rest c =
    behind_played c.lines.rest.now c.in-Some.line.now c.in-Some.more.now _ c.in-Some.ensures.pieces
    (ap is_played (sym c.sort_of.ensures) ∙ sym c.is_played.ensures ∙ c.if-is_played.true) c.lines.invariant.behind
