-- An item that joins a list in the order of a rank: it is as if it had been sorted with the others.
use Rattle.std.proofs.Common.{◌≡◌, ℕ, ◌+◌, ◌<◌, ◌≤◌, Bool, true, false, cond, List, [], ◌∷◌, ◌++◌, length, map, ltb, refl, sym, ap, ◌∙◌, arith}
use Rattle.std.specs.List.{AllByRecursion}
use Rattle.std.proofs.lemmas.List.Elements.{filter-append, All-from_recursion, recursion_from_All}
use Rattle.std.proofs.lemmas.Bool.Decides.{nat_tests}
use Rattle.m2_queues.specs.ByRank.{put_before, put_behind, by_rank, IsFalling, of_rank}
use Rattle.m2_queues.proofs.ByRank.{Falls, falls-by_rank, rank-by_rank, has_rank}

module _ {X : Type 0} (rank : X → ℕ) where
  pub falling : (xs : List X) → Falls rank xs → IsFalling rank xs
  falling [] h = tt
  falling (x ∷ xs) h = (All-from_recursion (λ y. rank y ≤ rank x) xs h.0, falling xs h.1)

  pub falls : (xs : List X) → IsFalling rank xs → Falls rank xs
  falls [] h = tt
  falls (x ∷ xs) h = (recursion_from_All (λ y. rank y ≤ rank x) xs h.0, falls xs h.1)

  -- one goes before all of its rank and one behind, whichever is put first
  turn : (y x : X) (xs : List X) → put_before rank y (put_behind rank x xs) ≡ put_behind rank x (put_before rank y xs)
  turn y x [] = elim (ltb (rank y) (rank x)) as (λ b. cond b (x ∷ y ∷ []) (y ∷ x ∷ []) ≡ cond b (x ∷ y ∷ []) (y ∷ x ∷ [])) [ true ↦ refl | false ↦ refl ]
  turn y x (z ∷ zs) = go (ltb (rank z) (rank x)) (ltb (rank y) (rank z)) (ltb (rank y) (rank x)) refl refl refl (turn y x zs)
    where
      go : (a b c : Bool) → ltb (rank z) (rank x) ≡ a → ltb (rank y) (rank z) ≡ b → ltb (rank y) (rank x) ≡ c
          → put_before rank y (put_behind rank x zs) ≡ put_behind rank x (put_before rank y zs)
          → put_before rank y (put_behind rank x (z ∷ zs)) ≡ put_behind rank x (put_before rank y (z ∷ zs))
      go true true true e f g more = rw (e, f, g, e)
      go true true false e f g more = absurd (let p : rank z < rank x = grind (arith, nat_tests) in let q : rank y < rank z = grind (arith, nat_tests) in let r : rank x ≤ rank y = grind (arith, nat_tests) in omega arith)
      go true false true e f g more = rw (e, f, g)
      go true false false e f g more = rw (e, f, g, e)
      go false true c e f g more = rw (e, f, e) (ap (λ l. z ∷ l) more)
      go false false true e f g more = absurd (let p : rank x ≤ rank z = grind (arith, nat_tests) in let q : rank z ≤ rank y = grind (arith, nat_tests) in let r : rank y < rank x = grind (arith, nat_tests) in omega arith)
      go false false false e f g more = rw (e, f, g, e)

  pub by_rank-joined : (xs : List X) (x : X) → by_rank rank (xs ++ x ∷ []) ≡ put_behind rank x (by_rank rank xs)
  by_rank-joined [] x = refl
  by_rank-joined (y ∷ ys) x = ap (put_before rank y) (by_rank-joined ys x) ∙ turn y x (by_rank rank ys)

  put-first : (x : X) (xs : List X) → AllByRecursion (λ y. rank y ≤ rank x) xs → put_before rank x xs ≡ x ∷ xs
  put-first x [] h = refl
  put-first x (y ∷ ys) h = let under : rank y ≤ rank x = h.0 in let test : ltb (rank x) (rank y) ≡ false = grind (arith, nat_tests) in rw test

  -- what falls in rank is sorted
  pub by_rank-falling : (xs : List X) → Falls rank xs → by_rank rank xs ≡ xs
  by_rank-falling [] h = refl
  by_rank-falling (x ∷ xs) h = ap (put_before rank x) (by_rank-falling xs h.1) ∙ put-first x xs h.0

  put-sorted : (xs : List X) (x : X) → Falls rank xs → put_behind rank x xs ≡ by_rank rank (xs ++ x ∷ [])
  put-sorted xs x h = sym (by_rank-joined xs x ∙ ap (put_behind rank x) (by_rank-falling xs h))

  pub falls-put_behind : (xs : List X) (x : X) → Falls rank xs → Falls rank (put_behind rank x xs)
  falls-put_behind xs x h = rw (put-sorted xs x h) (falls-by_rank rank (xs ++ x ∷ []))

  pub rank-put_behind : (n : ℕ) (xs : List X) (x : X) → Falls rank xs → of_rank rank n (put_behind rank x xs) ≡ of_rank rank n xs ++ of_rank rank n (x ∷ [])
  rank-put_behind n xs x h =
      ap (of_rank rank n) (put-sorted xs x h) ∙ rank-by_rank rank n (xs ++ x ∷ []) ∙ filter-append (has_rank rank n) xs (x ∷ [])

  pub length-put_behind : (x : X) (xs : List X) → length (put_behind rank x xs) ≡ length xs + 1
  length-put_behind x [] = refl
  length-put_behind x (y ∷ ys) =
      elim (ltb (rank y) (rank x)) as (λ b. length (cond b (x ∷ y ∷ ys) (y ∷ put_behind rank x ys)) ≡ length (y ∷ ys) + 1) [ true ↦ omega arith | false ↦ omega (arith, length-put_behind x ys) ]

  -- what holds of each item, and of the one that joins
  pub all-put_behind : (P : X → Type 0) (x : X) (xs : List X) → P x → AllByRecursion P xs → AllByRecursion P (put_behind rank x xs)
  all-put_behind P x [] h all = (h, tt)
  all-put_behind P x (y ∷ ys) h all =
      elim (ltb (rank y) (rank x)) as (λ b. AllByRecursion P (cond b (x ∷ y ∷ ys) (y ∷ put_behind rank x ys))) [ true ↦ (h, all) | false ↦ (all.0, all-put_behind P x ys h all.1) ]

-- what a function makes of the items joins at the same place, where their ranks are its
pub map-put_behind : {X Y : Type 0} (f : X → Y) (r : X → ℕ) (rank : Y → ℕ) (x : X) (xs : List X) → r x ≡ rank (f x) → AllByRecursion (λ y. r y ≡ rank (f y)) xs
    → map f (put_behind r x xs) ≡ put_behind rank (f x) (map f xs)
map-put_behind f r rank x [] at all = refl
map-put_behind f r rank x (y ∷ ys) at all = rw (at, all.0) (
    elim (ltb (rank (f y)) (rank (f x))) as (λ b. map f (cond b (x ∷ y ∷ ys) (y ∷ put_behind r x ys)) ≡ cond b (f x ∷ f y ∷ map f ys) (f y ∷ put_behind rank (f x) (map f ys)))
    [ true ↦ refl | false ↦ ap (λ l. f y ∷ l) (map-put_behind f r rank x ys at all.1) ])
