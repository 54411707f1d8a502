-- Each kind of step on the word of a throttle keeps its rule.
use Rattle.std.proofs.Common.{◌≡◌, ℕ, ◌+◌, ◌-◌, ◌%◌, ◌^◌, ◌<◌, ◌≤◌, Bool, true, false, List, [], ◌∷◌, ◌++◌, set, sym, ap, ◌∙◌, refl, subst, inl, inr, arith}
use Rattle.std.specs.Prelude.{◌==◌, map, sum, slice_index, if◌then◌else◌}
use Rattle.std.proofs.lemmas.Bool.Decides.{nat_tests}
use Rattle.std.proofs.lemmas.List.{map-set, map-append}
use mathlib.Core.Option.{some, none, some-injective}
use native.Mathlib.Decide.{dec_le, ℕ_discrete}
use prog.Atomic.{either}
use lib.ListN.{get_elem?}
use Rattle.atomic_table.specs.Table.{State, keeps, step, Allows, Splits, Joins}
use Rattle.atomic_table.proofs.Lists.{set_here, set_else, set_again, at_longer, at_map}
use Rattle.m2_shared.specs.Throttle.{Waits}
use Rattle.m2_shared.specs.Held.{OneIsGreat, IsWithin, IsOut, holding_nothing, held_of, with_change, both_holdings, raised_by, lowered_by, looked, raised, lowered}
use Rattle.m2_shared.specs.declared.held.Holding.{Holding}
use Rattle.m2_shared.proofs.Sums.{sum_set, sum_at, at_length, sum_more, sub_wraps}

abbrev Rule : ℕ → State (Unit {0}) Holding → Type 0
Rule most s = IsOut most s.words (map held_of s.views)

-- the rule, over what the seats hold, is that over the seats
over_seats : (most : ℕ) (words : List ℕ) (seats : List Holding) (id : ℕ) (w : Holding) → IsOut most words (set (map held_of seats) id w.held)
    → IsOut most words (map held_of (set seats id w))
over_seats most words seats id w kept = subst (IsOut most words) (sym (map-set held_of seats id w)) kept

-- the word changes by f where one seat's hold changes as much
kept_after : (most : ℕ) (f : ℕ → ℕ) (words held : List ℕ) (id v w : ℕ) → IsOut most words held → get_elem? held id ≡ some v
    → f (sum held) + v ≡ sum held + w → IsWithin most (set held id w) → IsOut most (set words 0 (f (slice_index words 0))) (set held id w)
kept_after most f words held id v w kept at moves within =
    let rest = sum_set held id v w at in
    let x : ℕ = f (sum held) in
    let y : ℕ = sum (set held id w) in
    let same : x ≡ y = omega (arith, moves, rest) in record {
      word = ap (λ (ws : List ℕ). set ws 0 (f (slice_index ws 0))) kept.word ∙ ap (λ (n : ℕ). n ∷ []) same;
      within = within;
    }

-- one seat more that holds nothing
within_more : (most : ℕ) (held : List ℕ) → IsWithin most held → IsWithin most (held ++ 0 ∷ [])
within_more most held (inl under) = inl (omega (arith, sum_more held, under))
within_more most held (inr one) = inr (record {
  place = one.place;
  n = one.n;
  there = at_longer held (0 ∷ []) one.place one.n one.there;
  great = one.great;
  others = omega (arith, sum_more held, one.others);
})

-- no seat's hold changes
within_again : (most : ℕ) (held : List ℕ) (id v : ℕ) → get_elem? held id ≡ some v → IsWithin most held → IsWithin most (set held id v)
within_again most held id v at within = subst (IsWithin most) (sym (set_again held id v at)) within

-- a seat that holds as much as before
same_held : (most : ℕ) (words : List ℕ) (seats : List Holding) (id : ℕ) (v w : Holding) → IsOut most words (map held_of seats) → get_elem? seats id ≡ some v
    → v.held ≡ w.held → IsOut most words (map held_of (set seats id w))
same_held most words seats id v w kept at same =
    let there = subst (λ (n : ℕ). get_elem? (map held_of seats) id ≡ some n) same (at_map held_of seats id v at) in
    over_seats most words seats id w (subst (IsOut most words) (sym (set_again (map held_of seats) id w.held there)) kept)

-- a word that stays as it is
same_word : (most : ℕ) (words held : List ℕ) → IsOut most words held → words ≡ set words 0 (slice_index words 0)
same_word most words held kept = kept.word ∙ sym (ap (λ (ws : List ℕ). set ws 0 (slice_index ws 0)) kept.word)

pub loads : (most slots id : ℕ) (v : Holding) → Allows (Rule most) slots id (v, []) 0 (λ n. n) (looked (step slots 0 0 0 none) (v, []))
loads most slots id v s kept len at small =
    let w : Holding = with_change (slice_index s.words 0) (slice_index s.words 0) v in (
      w,
      keeps,
      tt,
      subst (λ (ws : List ℕ). IsOut most ws (map held_of (set s.views id w))) (same_word most s.words (map held_of s.views) kept)
          (same_held most s.words s.views id v w kept at refl),
      refl,
    )

-- a new seat, which holds nothing
pub splits : (most id : ℕ) (v : Holding) → Splits (Rule most) id v v holding_nothing
splits most id v s kept at =
    let same = set_again s.views id v at in
    let held : List ℕ = map held_of s.views in
    let more : IsOut most s.words (held ++ 0 ∷ []) = record {
      word = kept.word ∙ ap (λ (n : ℕ). n ∷ []) (sym (sum_more held));
      within = within_more most held kept.within;
    } in
    subst (λ (vs : List Holding). IsOut most s.words (map held_of (vs ++ holding_nothing ∷ []))) (sym same) (subst (IsOut most s.words) (sym (map-append held_of s.views (holding_nothing ∷ []))) more)

-- a seat that holds nothing is spent
pub joins : (most id other : ℕ) (v w : Holding) → v.held ≡ 0 → w.held ≡ 0 → Joins (Rule most) id v other w (both_holdings v w) holding_nothing
joins most id other v w mine theirs s kept at apart there =
    let first = same_held most s.words s.views id v (both_holdings v w) kept at (omega (arith, theirs)) in
    same_held most s.words (set s.views id (both_holdings v w)) other w holding_nothing first there theirs

granted_under : (most n : ℕ) (held : List ℕ) (id : ℕ) → ¬ Waits most (sum held) n → get_elem? held id ≡ some 0 → n ≤ most
    → Dec (sum (set held id n) ≤ most) → sum (set held id n) ≤ most
granted_under most n held id room at small (yes fits) = fits
granted_under most n held id room at small (no over) =
    let now = sum_set held id 0 n at in
    absurd (room (inl (small, omega (arith, now, over))))

granted_over : (most n : ℕ) (held : List ℕ) (id : ℕ) → ¬ Waits most (sum held) n → get_elem? held id ≡ some 0 → most ≤ n
    → Dec (sum held ≤ most) → OneIsGreat most (set held id n)
granted_over most n held id room at great (yes fits) = record {
  place = id;
  n = n;
  there = set_here held id n (at_length held id 0 at);
  great = great;
  others = omega (arith, sum_set held id 0 n at, fits);
}
granted_over most n held id room at great (no over) = absurd (room (inr (great, omega (arith, over))))

-- a grant of n bytes, where it needn't wait
within_granted : (most n : ℕ) (held : List ℕ) (id : ℕ) → ¬ Waits most (sum held) n → get_elem? held id ≡ some 0 → Dec (n ≤ most) → IsWithin most (set held id n)
within_granted most n held id room at (yes small) =
    let now = sum_set held id 0 n at in
    inl (granted_under most n held id room at small (dec_le (sum (set held id n)) most))
within_granted most n held id room at (no great) = inr (granted_over most n held id room at (omega arith) (dec_le (sum held) most))

given_by : (most : ℕ) (held : List ℕ) (id v : ℕ) → get_elem? held id ≡ some v → (one : OneIsGreat most held) → Dec (one.place ≡ id)
    → IsWithin most (set held id 0)
given_by most held id v at one (yes here) =
    let there' : get_elem? held id ≡ some one.n = subst (λ (i : ℕ). get_elem? held i ≡ some one.n) here one.there in
    let same : v ≡ one.n = some-injective v one.n (sym at ∙ there') in
    inl (omega (arith, sum_set held id v 0 at, same, one.others))
given_by most held id v at one (no other) = inr (record {
  place = one.place;
  n = one.n;
  there = set_else held id one.place 0 other ∙ one.there;
  great = one.great;
  others = omega (arith, sum_set held id v 0 at, one.others);
})

-- the seat gives back what it held
within_given : (most : ℕ) (held : List ℕ) (id v : ℕ) → get_elem? held id ≡ some v → IsWithin most held → IsWithin most (set held id 0)
within_given most held id v at (inl under) = inl (omega (arith, sum_set held id v 0 at, under))
within_given most held id v at (inr one) = given_by most held id v at one (ℕ_discrete one.place id)

-- the seat holds n where the word was as seen, and else nothing, as before
raised_to : (most old n id word : ℕ) (words held : List ℕ) → IsOut most words held → get_elem? held id ≡ some 0 → ¬ Waits most old n
    → slice_index words 0 ≡ word → (b : Bool) → (word == old) ≡ b
    → (w : ℕ) × IsOut most (set words 0 (either b (old + n) word)) (set held id w) × (w ≡ (if b then n else 0))
raised_to most old n id word words held kept at room is true hit =
    let total : word ≡ sum held = sym is ∙ ap (λ (ws : List ℕ). slice_index ws 0) kept.word in
    let seen : sum held ≡ old = sym total ∙ grind (arith, nat_tests) in (
      n,
      kept_after most (λ (k : ℕ). old + n) words held id 0 n kept at (omega (arith, seen))
          (within_granted most n held id (subst (λ (t : ℕ). ¬ Waits most t n) (sym seen) room) at (dec_le n most)),
      refl,
    )
raised_to most old n id word words held kept at room is false miss = (
  0,
  subst (λ (k : ℕ). IsOut most (set words 0 k) (set held id 0)) is
      (kept_after most (λ (k : ℕ). k) words held id 0 0 kept at refl (within_again most held id 0 at kept.within)),
  refl,
)

-- what the seat holds then, beside what it holds already
pub raises : (most slots id old n : ℕ) (v : Holding) → v.held ≡ 0 → ¬ Waits most old n
    → Allows (Rule most) slots id (v, []) 0 (λ k. either (k == old) (old + n) k) (raised (step slots 0 old (old + n) none) (v, []))
raises most slots id old n v empty room s kept len at small =
    let word : ℕ = slice_index s.words 0 in
    let held : List ℕ = map held_of s.views in
    let there = subst (λ (k : ℕ). get_elem? held id ≡ some k) empty (at_map held_of s.views id v at) in
    let to = raised_to most old n id word s.words held kept there room refl (word == old) refl in
    let w : Holding = raised_by old (old + n) word v in
    let same : n ≡ old + n - old = omega arith in
    let holds : to.0 ≡ w.held = to.2 ∙ (λ i. if word == old then same i else sym empty i) in (
      w,
      keeps,
      tt,
      over_seats most (set s.words 0 (either (word == old) (old + n) word)) s.views id w
          (subst (λ (k : ℕ). IsOut most (set s.words 0 (either (word == old) (old + n) word)) (set held id k)) holds to.1),
      refl,
    )

pub lowers : (most slots id n : ℕ) (v : Holding) → v.held ≡ n → n < 2 ^ 64
    → Allows (Rule most) slots id (v, []) 0 (λ k. (k + (2 ^ 64 - n)) % 2 ^ 64) (lowered (step slots 0 n 0 none) (v, []))
lowers most slots id n v holds fits s kept len at small =
    let held : List ℕ = map held_of s.views in
    let there = subst (λ (k : ℕ). get_elem? held id ≡ some k) holds (at_map held_of s.views id v at) in
    let total : slice_index s.words 0 ≡ sum held = ap (λ (ws : List ℕ). slice_index ws 0) kept.word in
    let least = sum_at held id n there in
    let falls = sub_wraps (sum held) n least (omega (arith, total, small)) in
    let w : Holding = lowered_by n (slice_index s.words 0) v in
    let empty : 0 ≡ w.held = omega (arith, holds) in
    let f : ℕ → ℕ = λ (k : ℕ). (k + (2 ^ 64 - n)) % 2 ^ 64 in
    let after = kept_after most f s.words held id n 0 kept there (omega (arith, falls, least)) (within_given most held id n there kept.within) in (
      w,
      keeps,
      tt,
      over_seats most (set s.words 0 (f (slice_index s.words 0))) s.views id w
          (subst (λ (k : ℕ). IsOut most (set s.words 0 (f (slice_index s.words 0))) (set held id k)) empty after),
      (refl, omega (arith, total, least)),
    )
