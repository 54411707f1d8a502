-- It is over the end that was handed over, and so over the one inside.
use Rattle.std.proofs.Common.{◌≡◌, subst, sym}
use Rattle.std.specs.Prelude.{IfOk}
use Rattle.m2_fabric.specs.CutEnd as cut
use Rattle.m2_handover.specs.End.{shown, told_nothing}
use Rattle.m2_run.specs.Cuts.{IsEndOver, bound_of}
use Rattle.m2_node.specs.Ends.{RunEndNow, seen_end}
use Rattle.m2_run.proofs.Giving.{ok_so, over_inner}
use Rattle.m2_run.proofs.gathering.inside.Goals as goal

pub returns-in_ok-open_end-in-Some : goal.returns-in_ok-open_end-in-Some
returns-in_ok-open_end-in-Some g c =
    let seen = g.E.End.seen in
    let bound = bound_of c.args.cuts.now c.args.made.now in
    let end = cut.shown c.in-Some.end in
    let mid = shown c.in_ok-open_end-in-Some.field-0 in
    subst (λ (e : RunEndNow). IfOk c.own_inside.result (λ inner. IsEndOver (bound (seen_end e).id) (seen_end e) (seen inner))) (sym c.in-Some.ensures)
    (ok_so (λ inner. mid ≡ told_nothing (seen inner)) (λ inner. IsEndOver (bound end.id) end (seen inner)) c.own_inside.result
    (λ inner same. over_inner (bound end.id) end mid (seen inner) c.in_ok-open_end-in-Some.ensures same) c.own_inside.ensures)
