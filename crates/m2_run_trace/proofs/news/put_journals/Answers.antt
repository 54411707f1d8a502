-- One record more.
use Rattle.std.proofs.Common.{◌≡◌, ◌<◌, length, sym, ap, ◌∙◌}
use Rattle.std.specs.List.{slice_get}
use Rattle.m2_run_trace.specs.News.{Said, journal_length, journal_up_to}
use Rattle.m2_run_trace.specs.Telling.{Telling}
use Rattle.m2_run_trace.proofs.Lines.{next_journal, one_done}
use Rattle.m2_run_trace.proofs.news.put_journals.Goals as goal

pub records-preserved : goal.records-preserved
records-preserved c =
    let l = c.records in
    let t = c.args.teller.now in
    let rs = t.center.records in
    let its : c.records-place-end.result.now ≡ rs = c.records-place-end.ensures ∙ ap (λ (t : Telling). t.center.records) c.teller.view_is in
    let within : l.place < length rs = rw its at c.records-test.true in
    let here = journal_up_to t l.place (journal_length (slice_get rs l.place)) l.told in
    let next = next_journal t l.place (length rs) l.told within in
    let told = rw c.journal_length.ensures at c.in_ok-put_up_to.ensures.told in
    record {
      text = rw told (one_done c.put_up_to.new.out.bytes l.out.bytes here.text _ _ _ (rw c.journal_length.ensures at c.in_ok-put_up_to.ensures.text)
          (ap (λ (s : Said). s.text) next) l.invariant.text);
      told = rw told (sym (ap (λ (s : Said). s.told) next) ∙ l.invariant.told);
    }
