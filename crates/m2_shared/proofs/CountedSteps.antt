-- Each kind of step on the word of a counter of numbers keeps its rule.
use Rattle.std.proofs.Common.{◌≡◌, ◌≢◌, ℕ, zero, suc, ◌+◌, ◌<◌, ◌≤◌, max, Bool, true, false, List, [], ◌∷◌, ◌++◌, length, set, get_or, sym, ap, ◌∙◌, refl, subst, ⊎_elim, arith}
use Rattle.std.specs.Prelude.{◌==◌, All, AllPairs, cond, slice_index, if◌then◌else◌}
use Rattle.std.proofs.lemmas.Bool.Decides.{nat_tests}
use Rattle.std.proofs.lemmas.List.Sums.{sum_by-cons, sum_by-append}
use mathlib.Core.Option.{some, none}
use native.Mathlib.Decide.{dec_le}
use prog.Atomic.{either}
use lib.ListN.{get_elem?}
use Rattle.atomic_table.specs.Table.{State, keeps, step, Allows, Splits, Joins}
use Rattle.atomic_table.proofs.Lists.{at_set, at_snoc, set_again, set_else}
use Rattle.m2_shared.specs.declared.limits.TheConstants.{LAST_NUMBER}
use Rattle.m2_shared.specs.declared.counted.Known.{Known}
use Rattle.m2_shared.specs.Counted.{times, times_in_all, IsGivenOnce, IsFound, knowing_nothing, both_known, with_number, lift, lifted, told, drew}
use Rattle.m2_shared.proofs.Sums.{sum_by_set}

abbrev Rule : State (Unit {0}) Known → Type 0
Rule s = IsGivenOnce s.words s.views

-- whether y is x, as a number
abbrev one_if : Bool → ℕ
one_if b = cond b 1 0

times-cons : (x y : ℕ) (ys : List ℕ) → times x (y ∷ ys) ≡ one_if (y == x) + times x ys
times-cons x y ys = sum_by-cons (λ (z : ℕ). one_if (z == x)) y ys

times-append : (x : ℕ) (ys zs : List ℕ) → times x (ys ++ zs) ≡ times x ys + times x zs
times-append x ys zs = sum_by-append (λ (z : ℕ). one_if (z == x)) ys zs

same_is_one : (x : ℕ) → one_if (x == x) ≡ 1
same_is_one x = grind (arith, nat_tests)

-- what stands in a list stands there at least once
times_at : (ys : List ℕ) (k d : ℕ) → k < length ys → 0 < times (get_or ys k d) ys
times_at [] k d lt = absurd (omega arith)
times_at (y ∷ ys) zero d lt = omega (arith, times-cons y y ys, same_is_one y)
times_at (y ∷ ys) (suc k) d lt = omega (arith, times-cons (get_or ys k d) y ys, times_at ys k d (omega arith))

-- what holds of each number that stands in a list holds of all
all_of : (P : ℕ → Type 0) (ys : List ℕ) → ((x : ℕ) → 0 < times x ys → P x) → All P ys
all_of P ys each k d lt = each (get_or ys k d) (times_at ys k d lt)

-- numbers that each stand there at most once differ
differ : (ys : List ℕ) → ((x : ℕ) → times x ys ≤ 1) → AllPairs (λ x y. x ≢ y) ys
differ [] once i j d lt end = absurd (omega arith)
differ (y ∷ ys) once zero zero d lt end = absurd (omega arith)
differ (y ∷ ys) once zero (suc j) d lt end =
    let there = times_at ys j d (omega arith) in
    λ same.
    let there' : 0 < times y ys = subst (λ (x : ℕ). 0 < times x ys) (sym same) there in
    omega (arith, times-cons y y ys, same_is_one y, once y, there')
differ (y ∷ ys) once (suc i) zero d lt end = absurd (omega arith)
differ (y ∷ ys) once (suc i) (suc j) d lt end = differ ys (λ x. omega (arith, times-cons x y ys, once x)) i j d (omega arith) (omega arith)

-- how often a seat has a number
abbrev times_of : ℕ → Known → ℕ
times_of x known = times x known.drawn

-- what one seat has, all have together
times_of_one : (seats : List Known) (id : ℕ) (v : Known) (x : ℕ) → get_elem? seats id ≡ some v → times_of x v ≤ times_in_all x seats
times_of_one seats id v x at = omega (arith, sum_by_set (times_of x) seats id v knowing_nothing at)

-- what one seat knows changes, and what is known of the word stays true of a greater one
least_set : (word up : ℕ) (seats : List Known) (id : ℕ) (w : Known) → ((i : ℕ) (known : Known) → get_elem? seats i ≡ some known → known.least ≤ word)
    → word ≤ up → w.least ≤ up → (i : ℕ) (known : Known) → get_elem? (set seats id w) i ≡ some known → known.least ≤ up
least_set word up seats id w least rises knows i known at =
    ⊎_elim (λ here. let same : w.least ≡ known.least = ap (λ (k : Known). k.least) here.1 in omega (arith, same, knows))
    (λ there. omega (arith, least i known there.1, rises)) (at_set seats id i w known at)

word_of : (words : List ℕ) (seats : List Known) → (given : IsGivenOnce words seats) → slice_index words 0 ≡ given.word
word_of words seats given = ap (λ (ws : List ℕ). slice_index ws 0) given.is_word

times_same : (x id : ℕ) (v w : Known) (seats : List Known) → get_elem? seats id ≡ some v → w.drawn ≡ v.drawn
    → times_in_all x (set seats id w) ≡ times_in_all x seats
times_same x id v w seats at same =
    let counts : times_of x w ≡ times_of x v = ap (times x) same in
    omega (arith, sum_by_set (times_of x) seats id v w at, counts)

-- the seat has the same numbers, and the word rises or stays
rises : (f : ℕ → ℕ) (words : List ℕ) (seats : List Known) (id : ℕ) (v w : Known) → (given : IsGivenOnce words seats) → get_elem? seats id ≡ some v
    → given.word ≤ f given.word → f given.word ≤ LAST_NUMBER → w.drawn ≡ v.drawn → w.least ≤ f given.word
    → IsGivenOnce (set words 0 (f (slice_index words 0))) (set seats id w)
rises f words seats id v w given at up last same knows =
    let counts = λ (x : ℕ). times_same x id v w seats at same in record {
      word = f given.word;
      is_word = ap (λ (ws : List ℕ). set ws 0 (f (slice_index ws 0))) given.is_word;
      last = last;
      once = λ x. omega (arith, counts x, given.once x);
      within = λ x some_seat. let w = given.within x (omega (arith, counts x, some_seat)) in (w.0, omega (arith, w.1, up));
      least = least_set given.word (f given.word) seats id w given.least up knows;
    }

-- what a look tells
found_is : (words : List ℕ) (seats : List Known) (id : ℕ) (v : Known) → IsGivenOnce words seats → get_elem? seats id ≡ some v → IsFound (slice_index words 0) v
found_is words seats id v given at = record {
  last = omega (arith, word_of words seats given, given.last);
  least = omega (arith, word_of words seats given, given.least id v at);
  once = differ v.drawn (λ x. omega (arith, times_of_one seats id v x at, given.once x));
}

-- what a seat knows of a word that it found holds of it
lift_is : (words : List ℕ) (seats : List Known) (id : ℕ) (v : Known) → (given : IsGivenOnce words seats) → get_elem? seats id ≡ some v
    → max v.least (slice_index words 0) ≤ given.word
lift_is words seats id v given at = omega (arith, word_of words seats given, given.least id v at)

pub loads : (slots id : ℕ) (v : Known) → Allows Rule slots id (v, []) 0 (λ n. n) (told (step slots 0 0 0 none) (v, []))
loads slots id v s given len at small = (
  lift (slice_index s.words 0) v,
  keeps,
  tt,
  rises (λ (n : ℕ). n) s.words s.views id v (lift (slice_index s.words 0) v) given at (omega arith) given.last refl (lift_is s.words s.views id v given at),
  (refl, found_is s.words s.views id v given at),
)

pub raises : (slots id least : ℕ) (v : Known) → least ≤ LAST_NUMBER
    → Allows Rule slots id (v, []) 0 (λ n. max n least) (lifted (step slots 0 least 0 none) (v, []))
raises slots id least v most s given len at small = (
  lift least v,
  keeps,
  tt,
  rises (λ (n : ℕ). max n least) s.words s.views id v (lift least v) given at (omega arith) (omega (arith, given.last, most)) refl
      (omega (arith, given.least id v at)),
  refl,
)

-- a seat that has no numbers and knows as much as v
abbrev fresh : Known → Known
fresh v = record { drawn = []; least = v.least }

pub splits : (id : ℕ) (v : Known) → Splits Rule id v v (fresh v)
splits id v s given at = subst (λ (vs : List Known). IsGivenOnce s.words (vs ++ fresh v ∷ [])) (sym (set_again s.views id v at)) (record {
  word = given.word;
  is_word = given.is_word;
  last = given.last;
  once = λ x. omega (arith, sum_by-append (times_of x) s.views (fresh v ∷ []), given.once x);
  within = λ x there. given.within x (omega (arith, sum_by-append (times_of x) s.views (fresh v ∷ []), there));
  least = λ i known there. ⊎_elim (λ old. given.least i known old)
      (λ new. let same : v.least ≡ known.least = ap (λ (k : Known). k.least) new in omega (arith, same, given.least id v at))
      (at_snoc s.views (fresh v) known i there);
})

-- the numbers of one seat go to another one
joined_times : (x id other : ℕ) (v w : Known) (seats : List Known) → get_elem? seats id ≡ some v → get_elem? (set seats id (both_known v w)) other ≡ some w
    → times_in_all x (set (set seats id (both_known v w)) other knowing_nothing) ≡ times_in_all x seats
joined_times x id other v w seats at there =
    let first = sum_by_set (times_of x) seats id v (both_known v w) at in
    let second = sum_by_set (times_of x) (set seats id (both_known v w)) other w knowing_nothing there in
    omega (arith, first, second, times-append x v.drawn w.drawn)

-- the other seat stood there before
other_stood : (seats : List Known) (id other : ℕ) (u w : Known) → ¬ (other ≡ id) → get_elem? (set seats id u) other ≡ some w → get_elem? seats other ≡ some w
other_stood seats id other u w apart there = sym (set_else seats id other u apart) ∙ there

pub joins : (id other : ℕ) (v w : Known) → Joins Rule id v other w (both_known v w) knowing_nothing
joins id other v w s given at apart there =
    let knows : max v.least w.least ≤ given.word = omega (arith, given.least id v at, given.least other w (other_stood s.views id other (both_known v w) w apart there)) in
    let first = least_set given.word given.word s.views id (both_known v w) given.least (omega arith) knows in record {
      word = given.word;
      is_word = given.is_word;
      last = given.last;
      once = λ x. omega (arith, joined_times x id other v w s.views at there, given.once x);
      within = λ x some_seat. given.within x (omega (arith, joined_times x id other v w s.views at there, some_seat));
      least = least_set given.word given.word (set s.views id (both_known v w)) other knowing_nothing first (omega arith) (omega arith);
    }

not_yet : (x n word : ℕ) → (0 < n → (0 < x) × (x ≤ word)) → word < x → Dec (n ≤ 0) → n ≡ 0
not_yet x n word within above (yes none_there) = omega arith
not_yet x n word within above (no there) = let w = within (omega arith) in absurd (omega (arith, w.1))

-- the number to which the word rises is a new one
drawn_once : (old id : ℕ) (v : Known) (words : List ℕ) (seats : List Known) → (given : IsGivenOnce words seats) → get_elem? seats id ≡ some v
    → given.word ≡ old → (x : ℕ) → (b : Bool) → (old + 1 == x) ≡ b
    → (times_in_all x (set seats id (with_number (old + 1) v)) ≤ 1) × (0 < times_in_all x (set seats id (with_number (old + 1) v)) → (0 < x) × (x ≤ old + 1))
drawn_once old id v words seats given at is x true new =
    let more = sum_by_set (times_of x) seats id v (with_number (old + 1) v) at in
    let here : old + 1 ≡ x = grind (arith, nat_tests) in
    let one : times x ((old + 1) ∷ []) ≡ 1 = times-cons x (old + 1) [] ∙ ap (λ (c : Bool). one_if c + 0) new in
    let none_yet : times_in_all x seats ≡ 0 = not_yet x (times_in_all x seats) given.word (given.within x) (omega (arith, here, is)) (dec_le (times_in_all x seats) 0) in
    (omega (arith, more, one, none_yet, times-append x v.drawn ((old + 1) ∷ [])), λ some_seat. (omega (arith, here), omega (arith, here)))
drawn_once old id v words seats given at is x false other =
    let more = sum_by_set (times_of x) seats id v (with_number (old + 1) v) at in
    let zero_more : times x ((old + 1) ∷ []) ≡ 0 = times-cons x (old + 1) [] ∙ ap (λ (c : Bool). one_if c + 0) other in
    let same : times_in_all x (set seats id (with_number (old + 1) v)) ≡ times_in_all x seats = omega (arith, more, zero_more, times-append x v.drawn ((old + 1) ∷ [])) in
    (omega (arith, same, given.once x), λ some_seat. let w = given.within x (omega (arith, same, some_seat)) in (w.0, omega (arith, w.1, is)))

-- the seat has the number to which the word rose, where the word was as seen
drawn_to : (old id word : ℕ) (v : Known) (words : List ℕ) (seats : List Known) → (given : IsGivenOnce words seats) → get_elem? seats id ≡ some v
    → old < LAST_NUMBER → slice_index words 0 ≡ word → (b : Bool) → (word == old) ≡ b
    → (w : Known) × IsGivenOnce (set words 0 (either b (old + 1) word)) (set seats id w) × (w ≡ (if b then with_number (old + 1) v else lift word v))
drawn_to old id word v words seats given at last is true hit =
    let seen : given.word ≡ old = sym (word_of words seats given) ∙ (is ∙ grind (arith, nat_tests)) in
    let new = λ (x : ℕ). drawn_once old id v words seats given at seen x (old + 1 == x) refl in (
      with_number (old + 1) v,
      record {
        word = old + 1;
        is_word = ap (λ (ws : List ℕ). set ws 0 (old + 1)) given.is_word;
        last = omega (arith, last);
        once = λ x. (new x).0;
        within = λ x. (new x).1;
        least = least_set given.word (old + 1) seats id (with_number (old + 1) v) given.least (omega (arith, seen)) (omega arith);
      },
      refl,
    )
drawn_to old id word v words seats given at last is false miss =
    let knows : max v.least word ≤ given.word = omega (arith, is, lift_is words seats id v given at) in (
      lift word v,
      subst (λ (k : ℕ). IsGivenOnce (set words 0 k) (set seats id (lift word v))) is
          (rises (λ (n : ℕ). n) words seats id v (lift word v) given at (omega arith) given.last refl knows),
      refl,
    )

pub draws : (slots id old : ℕ) (v : Known) → old < LAST_NUMBER
    → Allows Rule slots id (v, []) 0 (λ k. either (k == old) (old + 1) k) (drew (step slots 0 old (old + 1) none) (v, []))
draws slots id old v last s given len at small =
    let word : ℕ = slice_index s.words 0 in
    let to = drawn_to old id word v s.words s.views given at last refl (word == old) refl in (
      to.0,
      keeps,
      tt,
      to.1,
      (
        ap (λ (k : Known). (k, [])) to.2,
        found_is s.words s.views id v given at,
        λ seen. all_of (λ x. x < old + 1) v.drawn (λ x there.
            let w = given.within x (omega (arith, times_of_one s.views id v x at, there)) in
            omega (arith, w.1, word_of s.words s.views given, seen)),
      ),
    )
