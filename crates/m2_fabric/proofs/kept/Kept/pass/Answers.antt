use Rattle.std.proofs.Common.{◌≡◌, [], ◌∷◌, refl, ap, ◌∙◌, subst}
use Rattle.m2_fabric.specs.Kept.{back, there}
use Rattle.m2_fabric.specs.News.{AreTold, logs_of, progress_by, told_to}
use Rattle.m2_fabric.specs.declared.direction.Direction.{Direction}
use Rattle.m2_fabric.proofs.Passes.{passed_then, same_progress}
use Rattle.m2_fabric.proofs.kept.Kept.pass.Goals as goal

pub returns-clause-kept : goal.returns-clause-kept
returns-clause-kept g c =
    let what = c.args.what.now in
    let a = g.H.Holder.seen c.args.h.now in
    let b = g.H.Holder.seen c.pass.new.h in
    let d = there c.args.first c.args.second c.args.self.now in
    let e = back c.args.first c.args.second c.args.self.now in
    let P : Direction → Type 0 = λ x. AreTold (told_to what (logs_of a) (x ∷ [])) a b in
    let told : P d = subst P c.there.ensures c.in_ok-there.ensures.told in
    let one : c.in_ok-there.there ≡ progress_by what (logs_of a) d = c.in_ok-there.ensures.progress ∙ ap (progress_by what (logs_of a)) c.there.ensures in
    let two : c.in_ok-back.back ≡ progress_by what (logs_of a) e =
    c.in_ok-back.ensures.progress ∙ ap (progress_by what (logs_of b)) c.back.ensures ∙ same_progress what (told_to what (logs_of a) (d ∷ [])) a b e told in
    rw (one, two) refl

pub returns-clause-told : goal.returns-clause-told
returns-clause-told g c =
    let what = c.args.what.now in
    let a = g.H.Holder.seen c.args.h.now in
    let b = g.H.Holder.seen c.pass.new.h in
    let z = g.H.Holder.seen c.pass-2.new.h in
    let d = there c.args.first c.args.second c.args.self.now in
    let e = back c.args.first c.args.second c.args.self.now in
    let P : Direction → Type 0 = λ x. AreTold (told_to what (logs_of a) (x ∷ [])) a b in
    let Q : Direction → Type 0 = λ x. AreTold (told_to what (logs_of b) (x ∷ [])) b z in
    passed_then what (d ∷ []) (e ∷ []) a b z (subst P c.there.ensures c.in_ok-there.ensures.told) (subst Q c.back.ensures c.in_ok-back.ensures.told)
