-- Counters only rise, so what waits for one is met for good.
use Rattle.std.proofs.Common.{◌≡◌, ℕ, zero, suc, ◌≤◌, true, List, [], ◌∷◌, take, refl, subst, arith, Option, Some, None}
use Rattle.std.specs.Prelude.{slice_get, slice_index, slice_index_or}
use Rattle.std.proofs.lemmas.Bool.Decides.{nat_tests}
use Rattle.m2_weave.specs.declared.counted.CountedEntry.{CountedEntry}
use Rattle.m2_weave.specs.declared.counted.Need.{Need}
use Rattle.m2_weave.specs.declared.counted.Need.TheVariants.{Nothing, AtLeast, Never}
use Rattle.m2_weave.specs.Order.{Cut, AtMost}
use Rattle.m2_weave.specs.Counted.{Strands, sum_added, value_at, is_met, may_come}
use Rattle.m2_weave.specs.MergeLaws.{CountedStaysMet}

pub sum-rises : (c m n : ℕ) (s : List CountedEntry) → m ≤ n → sum_added c (take m s) ≤ sum_added c (take n s)
sum-rises c zero n s h = omega arith
sum-rises c (suc m) zero s h = absurd (omega (arith, h))
sum-rises c (suc m) (suc n) [] h = omega arith
sum-rises c (suc m) (suc n) (e ∷ s) h =
    let r : sum_added c (take m s) ≤ sum_added c (take n s) = sum-rises c m n s (omega (arith, h)) in omega arith

pub value-rises : (strands : Strands) (a b : Cut) (c : ℕ) → AtMost a b → value_at strands a c ≤ value_at strands b c
value-rises [] a b c w = omega arith
value-rises (s ∷ ss) [] b c w = omega arith
value-rises (s ∷ ss) (m ∷ a) [] c w = absurd (omega (arith, w.count))
value-rises (s ∷ ss) (m ∷ a) (n ∷ b) c w =
    let here : sum_added c (take m s) ≤ sum_added c (take n s) = sum-rises c m n s (w.each 0) in
    let rest : value_at ss a c ≤ value_at ss b c =
    value-rises ss a b c (record { count = omega (arith, w.count); each = λ k. w.each (suc k) }) in
    omega arith

need-stays : (need : Need) (v u : ℕ → ℕ) → ((c : ℕ) → v c ≤ u c) → is_met need v ≡ true → is_met need u ≡ true
need-stays Nothing v u rises met = refl
need-stays (AtLeast c least) v u rises met = let r : v c ≤ u c = rises c in grind (arith, nat_tests)
need-stays Never v u rises met = met

pub met-stays : (e : Option CountedEntry) (v u : ℕ → ℕ) → ((c : ℕ) → v c ≤ u c) → may_come e v ≡ true → may_come e u ≡ true
met-stays (Some e) v u rises met = need-stays e.need v u rises met
met-stays None v u rises met = met

pub counted_stays_met : CountedStaysMet
counted_stays_met strands a b k w e met =
    met-stays (slice_get (slice_index_or strands k []) (slice_index b k)) (value_at strands a) (value_at strands b)
    (λ c. value-rises strands a b c w)
    (subst (λ n. may_come (slice_get (slice_index_or strands k []) n) (value_at strands a) ≡ true) e met)
