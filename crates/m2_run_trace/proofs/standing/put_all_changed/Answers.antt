-- One record more.
use Rattle.std.proofs.Common.{◌≡◌, ◌<◌, length, ap, ◌∙◌}
use Rattle.std.specs.List.{slice_get}
use Rattle.m2_run_trace.specs.Standing.{changed_line}
use Rattle.m2_run_trace.specs.Telling.{Telling}
use Rattle.m2_run_trace.proofs.Lines.{next_standing, one_done}
use Rattle.m2_run_trace.proofs.standing.put_all_changed.Goals as goal

pub records-preserved : goal.records-preserved
records-preserved c =
    let l = c.records in
    let t = c.args.teller.now in
    let rs = t.center.records in
    let olds = c.args.olds.now in
    let its : c.records-place-end.result.now ≡ rs = c.records-place-end.ensures ∙ ap (λ (t : Telling). t.center.records) c.teller.view_is in
    let within : l.place < length rs = rw its at c.records-test.true in
    one_done c.put_changed.new.out.bytes l.out.bytes (changed_line t (slice_get olds l.place) (slice_get rs l.place)) _ _ _ c.in_ok-put_changed.ensures
    (next_standing t olds l.place (length rs) within) l.invariant
