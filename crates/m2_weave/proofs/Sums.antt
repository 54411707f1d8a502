-- Sums over strands: where each strand has its place among others and counts no less there, the others count no less in all.
use Rattle.std.proofs.Common.{◌≡◌, ℕ, zero, suc, ◌+◌, ◌<◌, ◌≤◌, List, [], ◌∷◌, ◌++◌, length, take, refl, sym, ◌∙◌, subst, arith, Some}
use Rattle.std.specs.Prelude.{slice_get, slice_index, slice_index_or, slice_set}
use Rattle.std.proofs.lemmas.List.{length-set, get_or-set_other}
use Rattle.m2_weave.specs.Order.{Cut}
use Rattle.m2_weave.specs.declared.strand.StrandItem.{StrandItem}
use Rattle.m2_weave.specs.Strands.{StrandNow, total, total_at}
use Rattle.m2_weave.specs.Rule.{nothing_at_all}
use Rattle.m2_weave.proofs.Staying.{total-rises}

-- ---- one strand

-- item by item
pub total_each : (f g : StrandItem → ℕ) (n : ℕ) (is : List StrandItem) → ((m : ℕ) (i : StrandItem) → slice_get is m ≡ Some i → f i ≤ g i) →
    total f (take n is) ≤ total g (take n is)
total_each f g zero is h = omega arith
total_each f g (suc n) [] h = omega arith
total_each f g (suc n) (i ∷ is) h =
    let rest : total f (take n is) ≤ total g (take n is) = total_each f g n is (λ m. h (suc m)) in omega (arith, rest, h 0 i refl)

longer : (f : StrandItem → ℕ) (n : ℕ) (is more : List StrandItem) → total f (take n is) ≤ total f (take n (is ++ more))
longer f zero is more = omega arith
longer f (suc n) [] more = omega arith
longer f (suc n) (i ∷ is) more = let rest : total f (take n is) ≤ total f (take n (is ++ more)) = longer f n is more in omega (arith, rest)

-- a strand that goes on, of which more may have come
pub total_on : (f g : StrandItem → ℕ) (m n : ℕ) (is more : List StrandItem) → m ≤ n → ((j : ℕ) (i : StrandItem) → slice_get is j ≡ Some i → f i ≤ g i) →
    total f (take m is) ≤ total g (take n (is ++ more))
total_on f g m n is more h each =
    omega (arith, total_each f g m is each, longer g m is more, total-rises g m n (is ++ more) h)

-- ---- all strands

-- one strand's part of a sum, and the others'
part-out : (f : StrandNow → StrandItem → ℕ) (ss : List StrandNow) (at : Cut) (j : ℕ) → length at ≡ length ss →
    total_at f ss (slice_set at j 0) + total (f (slice_index_or ss j nothing_at_all)) (take (slice_index at j) (slice_index_or ss j nothing_at_all).items) ≡ total_at f ss at
part-out f [] [] j n = omega arith
part-out f [] (m ∷ at) j n = absurd (omega (arith, n))
part-out f (s ∷ ss) [] j n = absurd (omega (arith, n))
part-out f (s ∷ ss) (m ∷ at) zero n = omega arith
part-out f (s ∷ ss) (m ∷ at) (suc j) n =
    let rest : total_at f ss (slice_set at j 0) + total (f (slice_index_or ss j nothing_at_all)) (take (slice_index at j) (slice_index_or ss j nothing_at_all).items) ≡ total_at f ss at =
    part-out f ss at j (omega (arith, n)) in
    omega (arith, rest)

-- so many items of a strand
abbrev part : (StrandNow → StrandItem → ℕ) → List StrandNow → Cut → ℕ → ℕ
part f ss at j = total (f (slice_index_or ss j nothing_at_all)) (take (slice_index at j) (slice_index_or ss j nothing_at_all).items)

pub sum_over : (f g : StrandNow → StrandItem → ℕ) (ss : List StrandNow) (c : Cut) (ts : List StrandNow) (at : Cut) (place : ℕ → ℕ) → length at ≡ length ts →
    ((i j : ℕ) → i < length ss → j < length ss → place i ≡ place j → i ≡ j) →
    ((i : ℕ) → i < length ss → part f ss c i ≤ part g ts at (place i)) → total_at f ss c ≤ total_at g ts at
sum_over f g [] c ts at place n apart each = omega arith
sum_over f g (s ∷ ss) [] ts at place n apart each = omega arith
sum_over f g (s ∷ ss) (m ∷ c) ts at place n apart each =
    let without = slice_set at (place 0) 0 in
    let rest : total_at f ss c ≤ total_at g ts without =
    sum_over f g ss c ts without (λ i. place (suc i)) (length-set at (place 0) 0 ∙ n)
    (λ i j hi hj e. let r : suc i ≡ suc j = apart (suc i) (suc j) (omega (arith, hi)) (omega (arith, hj)) e in omega (arith, r))
    (λ i h.
    let apart_from : place (suc i) ≡ place 0 → ⊥ = λ e. let r : suc i ≡ 0 = apart (suc i) 0 (omega (arith, h)) (omega arith) e in omega (arith, r) in
    subst (λ x. total (f (slice_index_or ss i nothing_at_all)) (take (slice_index c i) (slice_index_or ss i nothing_at_all).items)
    ≤ total (g (slice_index_or ts (place (suc i)) nothing_at_all)) (take x (slice_index_or ts (place (suc i)) nothing_at_all).items))
    (sym (get_or-set_other at (place 0) (place (suc i)) 0 0 apart_from)) (each (suc i) (omega (arith, h)))) in
    omega (arith, rest, each 0 (omega arith), part-out g ts at (place 0) n)
