-- What a list in the order of a rank has: it falls in rank, each rank keeps its items in order, and no
-- other list is so. So a stable sort leaves it.
use Rattle.std.proofs.Common.{◌≡◌, ℕ, zero, suc, ◌+◌, ◌<◌, ◌≤◌, Bool, true, false, cond, List, [], ◌∷◌, length, map, filter, drop, ltb, eqb, get_or, Less, Equal, Greater, refl, sym, ap, ◌∙◌, arith}
use Rattle.std.specs.List.{All, AllByRecursion}
use Rattle.std.specs.List.Sorted.{ties, IsPermutation, IsStableBy, IsSortedBy}
use Rattle.std.proofs.lemmas.List.Sorted.{IsPermutation-refl, IsPermutation-sym, IsPermutation-trans, IsPermutation-cons, IsPermutation-middle}
use Rattle.std.specs.Ordering.{is_lt, nat_cmp}
use Rattle.std.proofs.lemmas.List.Elements.{All-from_recursion, recursion_from_All}
use Rattle.std.proofs.lemmas.Bool.Decides.{nat_tests}
use Rattle.m2_queues.specs.ByRank.{put_before, by_rank, goes_before, IsStableSort}
use Rattle.m2_bytes.proofs.m2_lemmas.Lists.{all_so}

-- the test does not pass at any item
none : {X : Type 0} (p : X → Bool) (xs : List X) → AllByRecursion (λ x. p x ≡ false) xs → filter p xs ≡ []
none p [] all = refl
none p (x ∷ xs) all = rw all.0 (none p xs all.1)

same_tests : {X : Type 0} (p q : X → Bool) → ((x : X) → p x ≡ q x) → (xs : List X) → filter p xs ≡ filter q xs
same_tests p q same [] = refl
same_tests p q same (x ∷ xs) = rw (same x, same_tests p q same xs)

cons_is_not_nil : {X : Type 0} (x : X) (xs : List X) → [] ≡ x ∷ xs → ⊥
cons_is_not_nil x xs h = absurd (omega (arith, ap length h))

module _ {X : Type 0} (rank : X → ℕ) where
  abbrev pub has_rank : ℕ → X → Bool
  has_rank n x = eqb (rank x) n

  -- no item has a greater rank than one before it
  abbrev pub Falls : List X → Type 0
  Falls [] = Unit {0}
  Falls (x ∷ xs) = AllByRecursion (λ y. rank y ≤ rank x) xs × Falls xs

  all-put : (P : X → Type 0) (x : X) (xs : List X) → P x → AllByRecursion P xs → AllByRecursion P (put_before rank x xs)
  all-put P x [] h all = (h, tt)
  all-put P x (y ∷ ys) h all =
      elim (ltb (rank x) (rank y)) as (λ b. AllByRecursion P (cond b (y ∷ put_before rank x ys) (x ∷ y ∷ ys))) [ true ↦ (all.0, all-put P x ys h all.1) | false ↦ (h, all) ]

  -- what holds of each item still does
  pub all-by_rank : (P : X → Type 0) (xs : List X) → All P xs → All P (by_rank rank xs)
  all-by_rank P xs all = All-from_recursion P (by_rank rank xs) (go xs (recursion_from_All P xs all))
    where
      go : (xs : List X) → AllByRecursion P xs → AllByRecursion P (by_rank rank xs)
      go [] all = tt
      go (x ∷ xs) all = all-put P x (by_rank rank xs) all.0 (go xs all.1)

  falls-put : (x : X) (xs : List X) → Falls xs → Falls (put_before rank x xs)
  falls-put x [] h = (tt, tt)
  falls-put x (y ∷ ys) h = go (ltb (rank x) (rank y)) refl (falls-put x ys h.1)
    where
      go : (b : Bool) → ltb (rank x) (rank y) ≡ b → Falls (put_before rank x ys) → Falls (cond b (y ∷ put_before rank x ys) (x ∷ y ∷ ys))
      go true e more = let under : rank x ≤ rank y = grind (arith, nat_tests) in (all-put (λ z. rank z ≤ rank y) x ys under h.0, more)
      go false e more =
          let over : rank y ≤ rank x = grind (arith, nat_tests) in
          ((over, all_so (λ z. rank z ≤ rank y) (λ z. rank z ≤ rank x) (λ z le. omega arith) ys h.0), h)

  -- it falls in rank
  pub falls-by_rank : (xs : List X) → Falls (by_rank rank xs)
  falls-by_rank [] = tt
  falls-by_rank (x ∷ xs) = falls-put x (by_rank rank xs) (falls-by_rank xs)

  rank-put : (n : ℕ) (x : X) (xs : List X) → filter (has_rank n) (put_before rank x xs) ≡ filter (has_rank n) (x ∷ xs)
  rank-put n x [] = refl
  rank-put n x (y ∷ ys) = go (ltb (rank x) (rank y)) (eqb (rank x) n) (eqb (rank y) n) refl refl refl (rank-put n x ys)
    where
      go : (b c d : Bool) → ltb (rank x) (rank y) ≡ b → eqb (rank x) n ≡ c → eqb (rank y) n ≡ d
          → filter (has_rank n) (put_before rank x ys) ≡ filter (has_rank n) (x ∷ ys)
          → filter (has_rank n) (put_before rank x (y ∷ ys)) ≡ filter (has_rank n) (x ∷ y ∷ ys)
      go true true true e f g more = absurd (let lt : rank x < rank y = grind (arith, nat_tests) in let a : rank x ≡ n = grind (arith, nat_tests) in let b : rank y ≡ n = grind (arith, nat_tests) in omega arith)
      go true true false e f g more = rw (e, f, g, more, f)
      go true false true e f g more = rw (e, f, g, more, f)
      go true false false e f g more = rw (e, f, g, more, f)
      go false c d e f g more = rw e

  -- each rank keeps its items in order
  pub rank-by_rank : (n : ℕ) (xs : List X) → filter (has_rank n) (by_rank rank xs) ≡ filter (has_rank n) xs
  rank-by_rank n [] = refl
  rank-by_rank n (x ∷ xs) = rank-put n x (by_rank rank xs) ∙ ap (λ l. cond (has_rank n x) (x ∷ l) l) (rank-by_rank n xs)

  -- two lists have of each rank the same items in the same order
  abbrev pub HaveSameRanks : List X → List X → Type 0
  HaveSameRanks xs ys = (x : X) → filter (has_rank (rank x)) xs ≡ filter (has_rank (rank x)) ys

  own : (x : X) → has_rank (rank x) x ≡ true
  own x = grind (arith, nat_tests)

  -- the head of the one has a rank of the other
  heads : (x : X) (xs ys : List X) (y : X) → Falls (y ∷ ys) → filter (has_rank (rank x)) (x ∷ xs) ≡ filter (has_rank (rank x)) (y ∷ ys) → rank x ≤ rank y
  heads x xs ys y falls h = go (ltb (rank y) (rank x)) refl
    where
      go : (b : Bool) → ltb (rank y) (rank x) ≡ b → rank x ≤ rank y
      go false e = grind (arith, nat_tests)
      go true e =
          let lt : rank y < rank x = grind (arith, nat_tests) in
          let other : has_rank (rank x) y ≡ false = grind (arith, nat_tests) in
          let rest : AllByRecursion (λ z. has_rank (rank x) z ≡ false) ys = all_so (λ z. rank z ≤ rank y) _ (λ z le. grind (arith, nat_tests)) ys falls.0 in
          let mine : filter (has_rank (rank x)) (x ∷ xs) ≡ x ∷ filter (has_rank (rank x)) xs = rw (own x) in
          absurd (cons_is_not_nil x _ (sym (none (has_rank (rank x)) (y ∷ ys) (other, rest)) ∙ sym h ∙ mine))

  abbrev head_of : X → List X → X
  head_of d [] = d
  head_of d (x ∷ xs) = x

  -- what falls in rank is given by the items of each rank
  pub one_order : (xs ys : List X) → Falls xs → Falls ys → HaveSameRanks xs ys → xs ≡ ys
  one_order [] [] f g h = refl
  one_order [] (y ∷ ys) f g h = let mine : filter (has_rank (rank y)) (y ∷ ys) ≡ y ∷ filter (has_rank (rank y)) ys = rw (own y) in absurd (cons_is_not_nil y _ (h y ∙ mine))
  one_order (x ∷ xs) [] f g h = let mine : filter (has_rank (rank x)) (x ∷ xs) ≡ x ∷ filter (has_rank (rank x)) xs = rw (own x) in absurd (cons_is_not_nil x _ (sym (h x) ∙ mine))
  one_order (x ∷ xs) (y ∷ ys) f g h =
      let le : rank x ≤ rank y = heads x xs ys y g (h x) in
      let ge : rank y ≤ rank x = heads y ys xs x f (sym (h y)) in
      let same : rank y ≡ rank x = omega arith in
      let theirs : has_rank (rank x) y ≡ true = grind (arith, nat_tests) in
      let first : filter (has_rank (rank x)) (x ∷ xs) ≡ x ∷ filter (has_rank (rank x)) xs = rw (own x) in
      let second : filter (has_rank (rank x)) (y ∷ ys) ≡ y ∷ filter (has_rank (rank x)) ys = rw theirs in
      let both = sym first ∙ h x ∙ second in
      ap (λ z. z ∷ xs) (ap (head_of x) both) ∙ ap (λ l. y ∷ l) (one_order xs ys f.1 g.1 (λ z. go z (eqb (rank x) (rank z)) refl same (ap (drop 1) both)))
    where
      go : (z : X) (b : Bool) → eqb (rank x) (rank z) ≡ b → rank y ≡ rank x
          → filter (has_rank (rank x)) xs ≡ filter (has_rank (rank x)) ys
          → filter (has_rank (rank z)) xs ≡ filter (has_rank (rank z)) ys
      go z true e same k = let at : rank x ≡ rank z = grind (arith, nat_tests) in rw (← at) k
      go z false e same k =
          let other : eqb (rank y) (rank z) ≡ false = rw same e in
          let first : filter (has_rank (rank z)) (x ∷ xs) ≡ filter (has_rank (rank z)) xs = rw e in
          let second : filter (has_rank (rank z)) (y ∷ ys) ≡ filter (has_rank (rank z)) ys = rw other in
          sym first ∙ h z ∙ second

  falls-sorted : (lt : X → X → Bool) → ((x y : X) → lt x y ≡ ltb (rank y) (rank x)) → (xs : List X) → IsSortedBy lt xs → Falls xs
  falls-sorted lt is [] h = tt
  falls-sorted lt is (x ∷ []) h = (tt, tt)
  falls-sorted lt is (x ∷ y ∷ ys) h =
      let tail : IsSortedBy lt (y ∷ ys) = λ k d low high. let e : suc k + 1 ≡ suc (k + 1) = omega arith in
      ap (λ i. lt (get_or (x ∷ y ∷ ys) i d) (get_or (y ∷ ys) k d)) (sym e) ∙ h (suc k) d (omega arith) (omega arith) in
      let test : ltb (rank x) (rank y) ≡ false = sym (is y x) ∙ h 0 x (omega arith) (omega arith) in
      let under : rank y ≤ rank x = grind (arith, nat_tests) in
      let rest = falls-sorted lt is (y ∷ ys) tail in
      ((under, all_so (λ z. rank z ≤ rank y) (λ z. rank z ≤ rank x) (λ z le. omega arith) ys rest.0), rest)

  -- a stable sort that puts the greater rank first leaves the list in the order of the rank
  pub by_rank-sorted : (lt : X → X → Bool) → ((x y : X) → lt x y ≡ ltb (rank y) (rank x)) → (xs ys : List X) → IsSortedBy lt ys → IsStableBy lt xs ys → ys ≡ by_rank rank xs
  by_rank-sorted lt is xs ys sorted stable =
      one_order ys (by_rank rank xs) (falls-sorted lt is ys sorted) (falls-by_rank xs) (λ z.
      sym (same_tests (ties lt z) (has_rank (rank z)) (λ y. tie z y) ys) ∙ stable z ∙ same_tests (ties lt z) (has_rank (rank z)) (λ y. tie z y) xs ∙ sym (rank-by_rank (rank z) xs))
    where
      tie : (z y : X) → ties lt z y ≡ has_rank (rank z) y
      tie z y = rw (is z y, is y z) (grind (arith, nat_tests))

module _ {X : Type 0} (rank : X → ℕ) where
  permutation-put : (x : X) (xs : List X) → IsPermutation (x ∷ xs) (put_before rank x xs)
  permutation-put x [] = IsPermutation-refl (x ∷ [])
  permutation-put x (y ∷ ys) =
      let turned = IsPermutation-trans (x ∷ y ∷ ys) (y ∷ x ∷ ys) (y ∷ put_before rank x ys) (IsPermutation-sym (y ∷ x ∷ ys) (x ∷ y ∷ ys) (IsPermutation-middle (y ∷ []) x ys))
      (IsPermutation-cons y (x ∷ ys) (put_before rank x ys) (permutation-put x ys)) in
      elim (ltb (rank x) (rank y)) as (λ b. IsPermutation (x ∷ y ∷ ys) (cond b (y ∷ put_before rank x ys) (x ∷ y ∷ ys))) [ true ↦ turned | false ↦ IsPermutation-refl (x ∷ y ∷ ys) ]

  permutation-by_rank : (xs : List X) → IsPermutation xs (by_rank rank xs)
  permutation-by_rank [] = IsPermutation-refl []
  permutation-by_rank (x ∷ xs) =
      IsPermutation-trans (x ∷ xs) (x ∷ by_rank rank xs) (put_before rank x (by_rank rank xs)) (IsPermutation-cons x xs (by_rank rank xs) (permutation-by_rank xs)) (permutation-put x (by_rank rank xs))

  sorted-falls : (xs : List X) → Falls rank xs → IsSortedBy (goes_before rank) xs
  sorted-falls [] h k d low high = absurd (omega arith)
  sorted-falls (x ∷ []) h k d low high = absurd (omega arith)
  sorted-falls (x ∷ y ∷ ys) h zero d low high = let under : rank y ≤ rank x = h.0.0 in grind (arith, nat_tests)
  sorted-falls (x ∷ y ∷ ys) h (suc k) d low high =
      let e : suc k + 1 ≡ suc (k + 1) = omega arith in
      ap (λ i. goes_before rank (get_or (x ∷ y ∷ ys) i d) (get_or (y ∷ ys) k d)) e ∙ sorted-falls (y ∷ ys) h.1 k d (omega arith) (omega arith)

  tie : (x y : X) → ties (goes_before rank) x y ≡ has_rank rank (rank x) y
  tie x y = grind (arith, nat_tests)

  pub stable_sort : (xs : List X) → IsStableSort rank xs (by_rank rank xs)
  stable_sort xs = record {
    same = permutation-by_rank xs;
    sorted = sorted-falls (by_rank rank xs) (falls-by_rank rank xs);
    stable = λ x. same_tests (ties (goes_before rank) x) (has_rank rank (rank x)) (tie x) (by_rank rank xs) ∙ rank-by_rank rank (rank x) xs ∙ sym (same_tests (ties (goes_before rank) x) (has_rank rank (rank x)) (tie x) xs);
  }

-- the test that an order of numbers makes
pub less_test : (m n : ℕ) → is_lt (nat_cmp m n) ≡ ltb m n
less_test m n =
    elim (ltb m n) as (λ b. is_lt (cond b Less (cond (eqb m n) Equal Greater)) ≡ b) [ true ↦ refl | false ↦ elim (eqb m n) as (λ b. is_lt (cond b Equal Greater) ≡ false) [ true ↦ refl | false ↦ refl ] ]

-- the order of what a function gives of the items
pub map-put : {X Y : Type 0} (f : X → Y) (rank : Y → ℕ) (x : X) (xs : List X) → map f (put_before (λ z. rank (f z)) x xs) ≡ put_before rank (f x) (map f xs)
map-put f rank x [] = refl
map-put f rank x (y ∷ ys) =
    elim (ltb (rank (f x)) (rank (f y))) as (λ b. map f (cond b (y ∷ put_before (λ z. rank (f z)) x ys) (x ∷ y ∷ ys)) ≡ cond b (f y ∷ put_before rank (f x) (map f ys)) (f x ∷ f y ∷ map f ys)) [ true ↦ ap (λ l. f y ∷ l) (map-put f rank x ys) | false ↦ refl ]

pub map-by_rank : {X Y : Type 0} (f : X → Y) (rank : Y → ℕ) (xs : List X) → map f (by_rank (λ z. rank (f z)) xs) ≡ by_rank rank (map f xs)
map-by_rank f rank [] = refl
map-by_rank f rank (x ∷ xs) = map-put f rank x (by_rank (λ z. rank (f z)) xs) ∙ ap (put_before rank (f x)) (map-by_rank f rank xs)

length-put : {X : Type 0} (rank : X → ℕ) (x : X) (xs : List X) → length (put_before rank x xs) ≡ length xs + 1
length-put rank x [] = refl
length-put rank x (y ∷ ys) =
    elim (ltb (rank x) (rank y)) as (λ b. length (cond b (y ∷ put_before rank x ys) (x ∷ y ∷ ys)) ≡ length (y ∷ ys) + 1) [ true ↦ omega (arith, length-put rank x ys) | false ↦ omega arith ]

pub length-by_rank : {X : Type 0} (rank : X → ℕ) (xs : List X) → length (by_rank rank xs) ≡ length xs
length-by_rank rank [] = refl
length-by_rank rank (x ∷ xs) = length-put rank x (by_rank rank xs) ∙ omega (arith, length-by_rank rank xs)
