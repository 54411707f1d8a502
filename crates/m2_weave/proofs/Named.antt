-- The strands that an order names.
use Rattle.std.proofs.Common.{◌≡◌, ℕ, zero, suc, ◌+◌, ◌<◌, ◌⊎◌, inl, inr, Bool, true, false, List, [], ◌∷◌, ◌++◌, length, take, drop, map, refl, sym, ap, ◌∙◌, subst, arith}
use Rattle.std.specs.Prelude.{◌==◌, if◌then◌else◌, slice_index}
use Rattle.std.proofs.lemmas.Bool.{cases_eq}
use Rattle.std.proofs.lemmas.Bool.Decides.{nat_tests}
use Rattle.std.proofs.lemmas.List.{length-map}
use Rattle.m2_weave.specs.Order.{Cut, Rule, AreLawful, nothing, come, come_all}
use Rattle.m2_weave.specs.Both.{once, times, of_both, of_one, of_other, ComeInOrder}
use Rattle.m2_weave.specs.MergeLaws.{OrderNamesAll}
use Rattle.m2_weave.proofs.Furthest.{come-same, come-other, come-length, zero-at}
use Rattle.m2_bytes.proofs.m2_lemmas.Lists.{index_in_range}

-- ---- how often a strand is named

one-if : (j k : ℕ) → j ≡ k → once (j == k) ≡ 1
one-if j k e = grind (arith, nat_tests)

none-if : (j k : ℕ) → (j ≡ k → ⊥) → once (j == k) ≡ 0
none-if j k n = grind (arith, nat_tests)

come-times : (at : Cut) (j k : ℕ) → j < length at → (k ≡ j) ⊎ (k ≡ j → ⊥) → slice_index (come j at) k ≡ slice_index at k + once (j == k)
come-times at j k h (inl e) =
    let P : ℕ → Type 0 = λ x. slice_index (come j at) x ≡ slice_index at x + once (j == x) in
    let own : slice_index (come j at) j ≡ slice_index at j + once (j == j) = omega (arith, come-same at j h, one-if j j refl) in
    subst P (sym e) own
come-times at j k h (inr n) = omega (arith, come-other at j k n, none-if j k (λ e. n (sym e)))

reached-times : (rule : Rule) (all at : Cut) (k : ℕ) (order : List ℕ) → length at ≡ length all → AreLawful rule all at order →
    slice_index (come_all order at) k ≡ slice_index at k + times k order
reached-times rule all at k [] n l = omega arith
reached-times rule all at k (j ∷ order) n (may, l) =
    let within : j < length at = omega (arith, n, index_in_range all j (slice_index at j) may.more) in
    omega (arith, reached-times rule all (come j at) k order (come-length at j ∙ n) l, come-times at j k within (cases_eq k j))

pub names_all : OrderNamesAll
names_all rule all order o k =
    let reaches : slice_index (come_all order (nothing all)) k ≡ slice_index (nothing all) k + times k order =
    reached-times rule all (nothing all) k order (length-map all (λ n. 0)) o.lawful in
    omega (arith, reaches, zero-at all k, ap (λ cut. slice_index cut k) o.whole)

-- ---- two strands

module _ {A B : Type 0} where
  one-append : (zs ws : List (A ⊎ B)) → of_one (zs ++ ws) ≡ of_one zs ++ of_one ws
  one-append [] ws = refl
  one-append (inl x ∷ zs) ws = ap (λ l. x ∷ l) (one-append zs ws)
  one-append (inr y ∷ zs) ws = one-append zs ws

  other-append : (zs ws : List (A ⊎ B)) → of_other (zs ++ ws) ≡ of_other zs ++ of_other ws
  other-append [] ws = refl
  other-append (inl x ∷ zs) ws = other-append zs ws
  other-append (inr y ∷ zs) ws = ap (λ l. y ∷ l) (other-append zs ws)

  one-none : (ys : List B) → of_one {A = A} {B = B} (map inr ys) ≡ []
  one-none [] = refl
  one-none (y ∷ ys) = one-none ys

  other-none : (xs : List A) → of_other {A = A} {B = B} (map inl xs) ≡ []
  other-none [] = refl
  other-none (x ∷ xs) = other-none xs

one-all : {A : Type 0} (B : Type 0) (xs : List A) → of_one {A = A} {B = B} (map inl xs) ≡ xs
one-all B [] = refl
one-all B (x ∷ xs) = ap (λ l. x ∷ l) (one-all B xs)

other-all : (A : Type 0) {B : Type 0} (ys : List B) → of_other {A = A} {B = B} (map inr ys) ≡ ys
other-all A [] = refl
other-all A (y ∷ ys) = ap (λ l. y ∷ l) (other-all A ys)

take-none : {X : Type 0} (n : ℕ) → take {A = X} n [] ≡ []
take-none zero = refl
take-none (suc n) = refl

take-first : {X : Type 0} (n : ℕ) (xs : List X) → take 1 xs ++ take n (drop 1 xs) ≡ take (1 + n) xs
take-first n [] = take-none n ∙ sym (take-none (1 + n))
take-first n (x ∷ xs) = let same : suc n ≡ 1 + n = omega arith in ap (λ m. take m (x ∷ xs)) same

one-case : {A B : Type 0} (k j other : ℕ) (xs : List A) (ys : List B) (order : List ℕ) (b c : Bool) → (j == k) ≡ b →
    of_one (of_both k other (drop 1 xs) ys order) ≡ take (times k order) (drop 1 xs) →
    of_one (of_both k other xs (drop 1 ys) order) ≡ take (times k order) xs →
    of_one (of_both k other xs ys order) ≡ take (times k order) xs →
    of_one (if b then map inl (take 1 xs) ++ of_both k other (drop 1 xs) ys order
    else if c then map inr (take 1 ys) ++ of_both k other xs (drop 1 ys) order else of_both k other xs ys order)
    ≡ take (once b + times k order) xs
one-case k j other xs ys order true c is own theirs neither =
    one-append (map inl (take 1 xs)) (of_both k other (drop 1 xs) ys order)
    ∙ ap (λ l. l ++ of_one (of_both k other (drop 1 xs) ys order)) (one-all _ (take 1 xs))
    ∙ ap (λ l. take 1 xs ++ l) own ∙ take-first (times k order) xs
one-case k j other xs ys order false true is own theirs neither =
    one-append (map inr (take 1 ys)) (of_both k other xs (drop 1 ys) order)
    ∙ ap (λ l. l ++ of_one (of_both k other xs (drop 1 ys) order)) (one-none (take 1 ys))
    ∙ theirs ∙ ap (λ n. take n xs) (let same : times k order ≡ 0 + times k order = omega arith in same)
one-case k j other xs ys order false false is own theirs neither =
    neither ∙ ap (λ n. take n xs) (let same : times k order ≡ 0 + times k order = omega arith in same)

one-comes : {A B : Type 0} (k other : ℕ) (xs : List A) (ys : List B) (order : List ℕ) → of_one (of_both k other xs ys order) ≡ take (times k order) xs
one-comes k other xs ys [] = refl
one-comes k other xs ys (j ∷ order) = one-case k j other xs ys order (j == k) (j == other) refl
    (one-comes k other (drop 1 xs) ys order) (one-comes k other xs (drop 1 ys) order) (one-comes k other xs ys order)

both-true : (j one k : ℕ) → (one ≡ k → ⊥) → (j == one) ≡ true → (j == k) ≡ true → ⊥
both-true j one k n a b = grind (arith, nat_tests, n)

other-case : {A B : Type 0} (one k j : ℕ) (xs : List A) (ys : List B) (order : List ℕ) (b c : Bool) → (one ≡ k → ⊥) → (j == one) ≡ b → (j == k) ≡ c →
    of_other (of_both one k (drop 1 xs) ys order) ≡ take (times k order) ys →
    of_other (of_both one k xs (drop 1 ys) order) ≡ take (times k order) (drop 1 ys) →
    of_other (of_both one k xs ys order) ≡ take (times k order) ys →
    of_other (if b then map inl (take 1 xs) ++ of_both one k (drop 1 xs) ys order
    else if c then map inr (take 1 ys) ++ of_both one k xs (drop 1 ys) order else of_both one k xs ys order)
    ≡ take (once c + times k order) ys
other-case one k j xs ys order true true n is at own theirs neither = absurd (both-true j one k n is at)
other-case one k j xs ys order true false n is at own theirs neither =
    other-append (map inl (take 1 xs)) (of_both one k (drop 1 xs) ys order)
    ∙ ap (λ l. l ++ of_other (of_both one k (drop 1 xs) ys order)) (other-none (take 1 xs))
    ∙ own ∙ ap (λ n. take n ys) (let same : times k order ≡ 0 + times k order = omega arith in same)
other-case one k j xs ys order false true n is at own theirs neither =
    other-append (map inr (take 1 ys)) (of_both one k xs (drop 1 ys) order)
    ∙ ap (λ l. l ++ of_other (of_both one k xs (drop 1 ys) order)) (other-all _ (take 1 ys))
    ∙ ap (λ l. take 1 ys ++ l) theirs ∙ take-first (times k order) ys
other-case one k j xs ys order false false n is at own theirs neither =
    neither ∙ ap (λ n. take n ys) (let same : times k order ≡ 0 + times k order = omega arith in same)

other-comes : {A B : Type 0} (one k : ℕ) (xs : List A) (ys : List B) (order : List ℕ) → (one ≡ k → ⊥) → of_other (of_both one k xs ys order) ≡ take (times k order) ys
other-comes one k xs ys [] n = refl
other-comes one k xs ys (j ∷ order) n = other-case one k j xs ys order (j == one) (j == k) n refl refl
    (other-comes one k (drop 1 xs) ys order n) (other-comes one k xs (drop 1 ys) order n) (other-comes one k xs ys order n)

pub come_in_order : (A B : Type 0) → ComeInOrder A B
come_in_order A B = record { one = one-comes; other = other-comes }
