-- What is left to be put.
use Rattle.std.proofs.Common.{◌≡◌, ℕ, ◌<◌, true, false, List, [], ◌∷◌, length, refl, sym, true≢false, arith}
use Rattle.m2_trail.specs.Unput.{is_some}

pub some : (left : List ℕ) → is_some left ≡ true → 0 < length left
some [] e = absurd (true≢false (sym e))
some (b ∷ bs) _ = omega (arith)

pub none : (left : List ℕ) → is_some left ≡ false → left ≡ []
none [] _ = refl
none (b ∷ bs) e = absurd (true≢false e)
