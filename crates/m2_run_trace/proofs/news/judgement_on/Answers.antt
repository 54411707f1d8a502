-- The record at this place hasn't judged.
use Rattle.std.proofs.Common.{◌≡◌, ◌<◌, length, sym, ap, ◌∙◌}
use Rattle.m2_run_trace.specs.Telling.{Telling}
use Rattle.m2_run_trace.proofs.Lines.{judged_later}
use Rattle.m2_run_trace.proofs.news.judgement_on.Goals as goal

pub records-preserved : goal.records-preserved
records-preserved c =
    let rs = c.args.teller.now.center.records in
    let its : c.records-place-end.result.now ≡ rs = c.records-place-end.ensures ∙ ap (λ (t : Telling). t.center.records) c.teller.view_is in
    let within : c.records.place < length rs = rw its at c.records-test.true in
    judged_later c.args.socket.now c.args.journals.now rs c.records.place (length rs) c.judgement_at-judged.result _ within c.judgement_at-judged.ensures
    (sym c.is_some.ensures ∙ c.if-is_some.false) c.records.invariant
