-- An entry more was looked at.
use Rattle.std.proofs.Common.{◌∙◌, ◌+◌, Some, ap, arith, if◌then◌else◌, sym}
use Rattle.m2_run_trace.specs.News.{is_judged_on}
use Rattle.m2_run_trace.proofs.Judged.{is_there, one_more}
use Rattle.m2_run_trace.proofs.news.judged_from.Goals.{in-Some+then-is_judged_on, in-Some+else-is_judged_on, in_default}
use Rattle.m2_run_trace.proofs.news.judged_from.Goals as goal

pub entries-preserved : goal.entries-preserved
entries-preserved c =
    let es = c.args.journal.now.items in
    let place = c.entries.place in
    let new = c.match-get.found in elim c.match-get.branch [
      | in-Some+then-is_judged_on w ↦
          one_more c.args.socket.now es place c.entries.found new w.in-Some.entry (sym c.get.ensures ∙ w.in-Some.is)
          (w.found-is ∙ ap (λ b. if b then Some (place + 1) else c.entries.found) (sym w.if-is_judged_on.true ∙ w.is_judged_on.ensures))
          ∙ c.entries.invariant
      | in-Some+else-is_judged_on w ↦
          one_more c.args.socket.now es place c.entries.found new w.in-Some.entry (sym c.get.ensures ∙ w.in-Some.is)
          (w.found-is ∙ ap (λ b. if b then Some (place + 1) else c.entries.found) (sym w.if-is_judged_on.false ∙ w.is_judged_on.ensures))
          ∙ c.entries.invariant
      | in_default w ↦
          absurd (is_there es place (omega (arith, c.entries-test.true, c.len-place-end.ensures.count)) (sym c.get.ensures ∙ w.in_default.is))
    ]
