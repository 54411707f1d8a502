-- Words that are counted, one after another.
use Rattle.std.proofs.Common.{◌≡◌, ℕ, ◌+◌, ◌^◌, ◌<◌, List, [], ◌∷◌, length, refl, ap, ◌∙◌, arith}
use Rattle.std.specs.List.{range_with_len}
use Rattle.m2_edge.specs.Faults.{next_count}
use Rattle.m2_edge.specs.Words.{Counts, GivesEach}

-- before the end of 64 bits a count is one more
next-is : (n : ℕ) → n + 1 < 2 ^ 64 → next_count n ≡ n + 1
next-is n h = omega (arith, h)

-- words that are counted on from a number are those behind it
pub counted : (words : List ℕ) (old last : ℕ) → GivesEach Counts old words last → old + length words < 2 ^ 64 →
    words ≡ range_with_len (old + 1) (length words)
counted [] old last each fits = refl
counted (word ∷ words) old last (next, (e, f), each) fits =
    let one : word ≡ old + 1 = e ∙ next-is old (omega (arith, fits)) in
    let on : next ≡ old + 1 = f ∙ one in
    let rest : words ≡ range_with_len (next + 1) (length words) = counted words next last each (omega (arith, on, fits)) in
    ap (λ w. w ∷ words) one ∙ ap (λ ws. (old + 1) ∷ ws) (rest ∙ ap (λ n. range_with_len (n + 1) (length words)) on)
