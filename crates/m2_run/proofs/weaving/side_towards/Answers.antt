-- The first side is of the center at this place, or of one behind it.
use Rattle.std.proofs.Common.{◌≡◌, ◌∙◌, refl, sym, ap, subst}
use Rattle.std.specs.Prelude.{IfSome, IsSome, Some, None}
use Rattle.std.specs.Option.{option_map}
use Rattle.std.proofs.lemmas.Option.{slice_get_read}
use Rattle.m2_run.specs.Rests.{EndedCenterNow}
use Rattle.m2_run.specs.Weaving.{SideNow, side_of, side_towards, towards}
use Rattle.m2_run.proofs.Weaves.{side_here, side_next}
use Rattle.m2_run.proofs.weaving.side_towards.Goals as goal

pub returns-in-Some-clause-side : goal.returns-in-Some-clause-side
returns-in-Some-clause-side g c =
    let centers = c.args.centers.now in
    let k = c.centers.center-index in
    let center = c.center-item.result in
    let records = ap (towards c.args.peer) (sym (c.as_slice.ensures.value ∙ ap (λ (e : EndedCenterNow). e.records) c.center.view_is)) in
    let its : towards c.args.peer center.records ≡ Some c.in-Some.record.now = records ∙ sym c.towards.ensures ∙ ap (option_map (λ r. r.now)) c.in-Some.is in
    let there = slice_get_read centers _ k center refl c.centers-test.true c.center-item.is in
    let here : side_towards c.args.peer centers ≡ Some (side_of center c.in-Some.record.now) = c.centers.invariant ∙ side_here c.args.peer centers k center c.in-Some.record.now there its in
    subst (λ o. IfSome o (λ (t : SideNow). (c.in-Some.record.now ≡ t.record_) × (c.center.inside.fast.items ≡ t.center.fast) × (c.center.inside.queued.items ≡ t.center.queued))) (sym here)
    (refl, ap (λ (e : EndedCenterNow). e.fast) c.center.view_is, ap (λ (e : EndedCenterNow). e.queued) c.center.view_is)

pub returns-in-Some-clause-there : goal.returns-in-Some-clause-there
returns-in-Some-clause-there g c =
    let centers = c.args.centers.now in
    let k = c.centers.center-index in
    let center = c.center-item.result in
    let records = ap (towards c.args.peer) (sym (c.as_slice.ensures.value ∙ ap (λ (e : EndedCenterNow). e.records) c.center.view_is)) in
    let its : towards c.args.peer center.records ≡ Some c.in-Some.record.now = records ∙ sym c.towards.ensures ∙ ap (option_map (λ r. r.now)) c.in-Some.is in
    let there = slice_get_read centers _ k center refl c.centers-test.true c.center-item.is in
    let here : side_towards c.args.peer centers ≡ Some (side_of center c.in-Some.record.now) = c.centers.invariant ∙ side_here c.args.peer centers k center c.in-Some.record.now there its in
    subst (λ o. IsSome o) (sym here) refl

pub centers-preserved : goal.centers-preserved
centers-preserved g c =
    let centers = c.args.centers.now in
    let k = c.centers.center-index in
    let center = c.center-item.result in
    let records = ap (towards c.args.peer) (sym (c.as_slice.ensures.value ∙ ap (λ (e : EndedCenterNow). e.records) c.center.view_is)) in
    let none : towards c.args.peer center.records ≡ None = records ∙ sym c.towards.ensures ∙ ap (option_map (λ r. r.now)) c.in_default.is in
    c.centers.invariant ∙ side_next c.args.peer centers k center (slice_get_read centers _ k center refl c.centers-test.true c.center-item.is) none
