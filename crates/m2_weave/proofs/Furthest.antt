-- Of cuts that are reached: where nothing may come is the furthest of all.
use Rattle.std.proofs.Common.{◌≡◌, ℕ, zero, suc, ◌+◌, ◌<◌, ◌≤◌, inl, inr, List, [], ◌∷◌, length, refl, sym, ◌∙◌, subst, arith, ◌⊎◌}
use Rattle.std.specs.Prelude.{slice_index}
use Rattle.std.proofs.lemmas.List.{length-set, length-map, get_or-set_same, get_or-set_other, ext_get_or}
use Rattle.std.proofs.lemmas.Bool.{cases_eq}
use Rattle.m2_weave.specs.Order.{Cut, Rule, StaysMet, AtMost, MayCome, AreLawful, IsStuck, AreNext, nothing, come, come_all, reached}
use Rattle.m2_weave.specs.MergeLaws.{StuckIsTheEnd, GreedyIsAnOrder, StopsAreOne}
use Rattle.m2_bytes.proofs.m2_lemmas.Lists.{index_in_range}

-- ---- one more of a strand

pub come-same : (at : Cut) (k : ℕ) → k < length at → slice_index (come k at) k ≡ slice_index at k + 1
come-same at k h = get_or-set_same at k (slice_index at k + 1) 0 h

pub come-other : (at : Cut) (k j : ℕ) → (j ≡ k → ⊥) → slice_index (come k at) j ≡ slice_index at j
come-other at k j h = get_or-set_other at k j (slice_index at k + 1) 0 h

pub come-length : (at : Cut) (k : ℕ) → length (come k at) ≡ length at
come-length at k = length-set at k (slice_index at k + 1)

pub reached-length : (at : Cut) (order : List ℕ) → length (come_all order at) ≡ length at
reached-length at [] = refl
reached-length at (k ∷ ks) = reached-length (come k at) ks ∙ come-length at k

step-each : (a b : Cut) (k : ℕ) → AtMost a b → slice_index a k < slice_index b k → (j : ℕ) → (j ≡ k) ⊎ (j ≡ k → ⊥) →
    slice_index (come k a) j ≤ slice_index b j
step-each a b k w h j (inl e) =
    let r : k < length b = index_in_range b k (slice_index a k) h in
    let s : slice_index (come k a) k ≡ slice_index a k + 1 = come-same a k (omega (arith, w.count)) in
    let P : ℕ → Type 0 = λ i. slice_index (come k a) i ≤ slice_index b i in
    let at_k : slice_index (come k a) k ≤ slice_index b k = omega arith in
    subst P (sym e) at_k
step-each a b k w h j (inr n) = omega (arith, come-other a k j n, w.each j)

pub step-within : (a b : Cut) (k : ℕ) → AtMost a b → slice_index a k < slice_index b k → AtMost (come k a) b
step-within a b k w h = record {
  count = come-length a k ∙ w.count;
  each = λ j. step-each a b k w h j (cases_eq j k);
}

-- ---- the furthest cut

below-at : (rule : Rule) (all from at : Cut) (k : ℕ) → StaysMet rule → IsStuck rule all at → AtMost from at → MayCome rule all from k →
    (slice_index from k ≡ slice_index at k) ⊎ (slice_index from k ≡ slice_index at k → ⊥) → slice_index from k < slice_index at k
below-at rule all from at k stays stuck w may (inl e) =
    absurd (stuck k (record { more = subst (λ n. n < slice_index all k) e may.more; met = stays from at k w e may.met }))
below-at rule all from at k stays stuck w may (inr n) = let l : slice_index from k ≤ slice_index at k = w.each k in grind (arith, n)

pub further : (rule : Rule) (all from at : Cut) (order : List ℕ) → StaysMet rule → IsStuck rule all at → AtMost from at →
    AreLawful rule all from order → AtMost (come_all order from) at
further rule all from at [] stays stuck w l = w
further rule all from at (k ∷ ks) stays stuck w (may, l) =
    further rule all (come k from) at ks stays stuck
    (step-within from at k w (below-at rule all from at k stays stuck w may (cases_eq (slice_index from k) (slice_index at k)))) l

pub zero-at : (all : Cut) (k : ℕ) → slice_index (nothing all) k ≡ 0
zero-at [] k = refl
zero-at (n ∷ all) zero = refl
zero-at (n ∷ all) (suc k) = zero-at all k

pub begins : (all at : Cut) → length at ≡ length all → AtMost (nothing all) at
begins all at e = record {
  count = length-map all (λ n. 0) ∙ sym e;
  each = λ k. omega (arith, zero-at all k);
}

pub stuck_is_the_end : StuckIsTheEnd
stuck_is_the_end rule all at order stays count stuck l =
    further rule all (nothing all) at order stays stuck (begins all at count) l

-- ---- orders within all entries

pub within : (rule : Rule) (all at : Cut) (order : List ℕ) → AtMost at all → AreLawful rule all at order → AtMost (come_all order at) all
within rule all at [] w l = w
within rule all at (k ∷ ks) w (may, l) = within rule all (come k at) ks (step-within at all k w may.more) l

pub reached-count : (all : Cut) (order : List ℕ) → length (reached all order) ≡ length all
reached-count all order = reached-length (nothing all) order ∙ length-map all (λ n. 0)

pub same-cut : (a b : Cut) → AtMost a b → AtMost b a → a ≡ b
same-cut a b l r = ext_get_or 0 a b l.count (λ i h. omega (arith, l.each i, r.each i))

pub are-lawful : (rank : ℕ → ℕ) (rule : Rule) (all at : Cut) (order : List ℕ) → AreNext rank rule all at order → AreLawful rule all at order
are-lawful rank rule all at [] next = tt
are-lawful rank rule all at (k ∷ ks) (next, rest) = (next.may, are-lawful rank rule all (come k at) ks rest)

pub greedy_is_an_order : GreedyIsAnOrder
greedy_is_an_order rank rule all greedy order stays g o =
    let lawful : AreLawful rule all (nothing all) greedy = are-lawful rank rule all (nothing all) greedy g.each in
    let most : AtMost (reached all greedy) all = within rule all (nothing all) greedy (begins all all refl) lawful in
    let least : AtMost (reached all order) (reached all greedy) =
    stuck_is_the_end rule all (reached all greedy) order stays (reached-count all greedy) g.stuck o.lawful in
    record {
      lawful = lawful;
      whole = same-cut (reached all greedy) all most (subst (λ cut. AtMost cut (reached all greedy)) o.whole least);
    }

pub stops_are_one : StopsAreOne
stops_are_one one other rule all xs ys stays f g = same-cut (reached all xs) (reached all ys)
    (stuck_is_the_end rule all (reached all ys) xs stays (reached-count all ys) g.stuck (are-lawful one rule all (nothing all) xs f.each))
    (stuck_is_the_end rule all (reached all xs) ys stays (reached-count all xs) f.stuck (are-lawful other rule all (nothing all) ys g.each))
