-- Over the cut end that was in it, and then inside the end that was handed over.
use Rattle.std.proofs.Common.{◌≡◌, ◌∙◌, ap, subst, sym}
use Rattle.m2_fabric.specs.CutEnd as cut
use Rattle.m2_fabric.specs.End.{SeenEnd}
use Rattle.m2_handover.specs.End.{IsHalfInside, shown}
use Rattle.m2_handover.proofs.Shown.{whole_inside}
use Rattle.m2_trail.specs.Arrivals.{LooseNow}
use Rattle.m2_trail.specs.Trails.{IsWholeTrail, TrailNow}
use Rattle.m2_run.specs.Cuts.{IsEndOver, bound_of}
use Rattle.m2_node.specs.Ends.{seen_end}
use Rattle.m2_run.specs.Kept.{IsOpenedAs}
use Rattle.m2_run.proofs.Giving.{ok_so}
use Rattle.m2_run.proofs.ending.open_half.Goals as goal

pub new-requires : goal.new-requires
new-requires g c =
    let half = c.args.half in
    let bound = bound_of c.args.cuts.now c.args.made.now in
    let mid = shown c.in_ok-open_end.field-0 in
    let same : cut.shown c.in-Some.end ≡ half.end = sym (ap seen_end c.in-Some.ensures) ∙ c.into_parts-end.ensures.end in
    let over = subst (λ (e : SeenEnd). IsEndOver (bound e.id) e mid) same c.in_ok-open_end.ensures in
    subst (λ (t : TrailNow). IsWholeTrail t mid) (sym c.into_parts-end.ensures.trail) (whole_inside half.trail half.end mid c.into_parts-end.ensures.whole (sym over.id) (sym over.log))

pub returns : goal.returns
returns g c =
    let half = c.args.half in
    let bound = bound_of c.args.cuts.now c.args.made.now in
    let mid = shown c.in_ok-open_end.field-0 in
    let same : cut.shown c.in-Some.end ≡ half.end = sym (ap seen_end c.in-Some.ensures) ∙ c.into_parts-end.ensures.end in
    let over = subst (λ (e : SeenEnd). IsEndOver (bound e.id) e mid) same c.in_ok-open_end.ensures in
    let its = c.new.ensures ∙ ap (λ (t : TrailNow). let l : LooseNow = record { end = mid; trail = t } in l) c.into_parts-end.ensures.trail in
    ok_so (λ (o : LooseNow). IsHalfInside c.new.result o) (λ (o : LooseNow). IsOpenedAs bound half o) c.half_inside.result
    (λ o inside. record { mid = mid; over = over; inside = subst (λ (h : LooseNow). IsHalfInside h o) its inside }) c.half_inside.ensures.ok
