-- It breaks where it was to.
use Rattle.std.proofs.Common.{rules, ◌≡◌, subst, sym}
use Rattle.m2_fabric.specs.CutEnd.{shown}
use Rattle.m2_run.specs.Cuts.{IsEndOver, bound_of}
use Rattle.m2_run.proofs.CutEnds.{over_inside}
use Rattle.m2_run.proofs.cuts.open_end.Goals as goal

pub returns : goal.returns
returns g c =
    let b = c.args.end in
    let due = bound_of c.args.cuts.now c.args.made.now b.inner.id in
    let same : b.bound ≡ due = search rules in
    subst (IsEndOver due (shown b)) (sym c.into_end.ensures) (over_inside b due c.is_cut_right.ensures same)
