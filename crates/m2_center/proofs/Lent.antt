-- A list that was lent whole and came back as long.
use Rattle.std.proofs.Common.{◌≡◌, ℕ, List, ◌++◌, length, take, drop, ap, sym, subst, ◌∙◌}
use Rattle.std.proofs.Math.Seq.{take-append_seam}

pub came_back : {X : Type 0} (old new : List X) (n : ℕ) → length new ≡ n → take n (new ++ drop (length new) old) ≡ new
came_back old new n same = ap (λ k. take k (new ++ drop (length new) old)) (sym same) ∙ take-append_seam new (drop (length new) old)

-- what holds of what was lent and came back holds of what it was lent from
pub of_both : {X : Type 0} (P : X → X → Type 0) (a b x y : X) → x ≡ a → y ≡ b → P x y → P a b
of_both P a b x y was is h = subst (λ z. P z b) was (subst (P x) is h)
