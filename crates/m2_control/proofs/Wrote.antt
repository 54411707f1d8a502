-- What several appends in a row leave.
use Rattle.std.proofs.Common.{◌≡◌, ℕ, ◌+◌, ◌≤◌, List, ◌++◌, length, ap, subst, ◌∙◌, append_assoc, length-append, arith}
use Rattle.std.specs.Int.{w64, to_le_bytes}
use Rattle.m2_bytes.specs.Blob.{Contents}

abbrev pub Wrote : Contents → Contents → List ℕ → Type 0
Wrote old new more = (new.bytes ≡ old.bytes ++ more) × (old.room ≤ new.room + length more)

pub started : (old mid new : Contents) (x : List ℕ) → mid.bytes ≡ old.bytes → old.room ≤ mid.room → Wrote mid new x → Wrote old new x
started old mid new x same grows wrote = (wrote.0 ∙ ap (λ (t : List ℕ). t ++ x) same, omega (arith, grows, wrote.1))

pub then : (old mid new : Contents) (x y : List ℕ) → Wrote old mid x → Wrote mid new y → Wrote old new (x ++ y)
then old mid new x y first second =
    (second.0 ∙ ap (λ (t : List ℕ). t ++ y) first.0 ∙ append_assoc old.bytes x y, omega (arith, first.1, second.1, length-append x y))

pub instead : (old new : Contents) (x y : List ℕ) → x ≡ y → Wrote old new x → Wrote old new y
instead old new x y same wrote = subst (λ (t : List ℕ). Wrote old new t) same wrote

-- six numbers as an ident has them
abbrev pub tail_of : ℕ → ℕ → ℕ → ℕ → ℕ → ℕ → List ℕ
tail_of a b c d e f = to_le_bytes w64 a ++ to_le_bytes w64 b ++ to_le_bytes w64 c ++ to_le_bytes w64 d ++ to_le_bytes w64 e ++ to_le_bytes w64 f
