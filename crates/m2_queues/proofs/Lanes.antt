-- The items of one rank, in the order in which they went in, among the others.
use Rattle.std.proofs.Common.{◌≡◌, ◌≢◌, ℕ, ◌+◌, ◌<◌, ◌≤◌, Bool, true, false, not, ◌&&◌, cond, List, [], ◌∷◌, ◌++◌, length, map, drop, ltb, eqb, refl, sym, ap, ◌∙◌, arith, length-append}
use Rattle.std.specs.List.{AllByRecursion}
use Rattle.std.proofs.lemmas.List.{length-map}
use Rattle.std.proofs.lemmas.Bool.Decides.{nat_tests}
use Rattle.m2_queues.specs.ByRank.{put_behind}
use Rattle.m2_queues.specs.PriorityQueue.{Ranked, rank_of, joined, first_rank}
use Rattle.m2_queues.specs.PriorityQueueFields.{at_rank, placed_among, items_among, goes_before_others, rank_for, IsOfAnother}

module _ {T : Type 0} where
  -- where there is none of the rank the others stay as they are
  pub placed-none : (rank : ℕ) (rs : List (Ranked T)) → placed_among rank [] rs ≡ rs
  placed-none rank [] = refl
  placed-none rank (r ∷ rs) =
      elim (ltb rank r.rank) as (λ b. cond b (r ∷ placed_among rank [] rs) (r ∷ rs) ≡ r ∷ rs) [ true ↦ ap (λ l. r ∷ l) (placed-none rank rs) | false ↦ refl ]

  length-placed : (rank : ℕ) (lane rs : List (Ranked T)) → length (placed_among rank lane rs) ≡ length lane + length rs
  length-placed rank lane [] = omega arith
  length-placed rank lane (r ∷ rs) =
      elim (ltb rank r.rank) as (λ b. length (cond b (r ∷ placed_among rank lane rs) (lane ++ r ∷ rs)) ≡ length lane + length (r ∷ rs))
      [ true ↦ omega (arith, length-placed rank lane rs) | false ↦ length-append lane (r ∷ rs) ]

  pub length-items_among : (rank : ℕ) (lane : List T) (rs : List (Ranked T)) → length (items_among rank lane rs) ≡ length lane + length rs
  length-items_among rank lane rs = length-placed rank (map (at_rank rank) lane) rs ∙ ap (λ n. n + length rs) (length-map lane (at_rank rank))

  -- a lane that gets another rank has no item, and there are no others
  pub record IsForAnother (lane_rank rank : ℕ) (lane : List T) (rs : List (Ranked T)) : Type 0 where
    pub items : items_among rank lane rs ≡ items_among lane_rank lane rs
    pub apart : AllByRecursion (IsOfAnother rank) rs

  pub another_rank : (len lane_rank rank : ℕ) (lane : List T) (rs : List (Ranked T)) → len ≡ length lane + length rs → AllByRecursion (IsOfAnother lane_rank) rs
      → IsForAnother lane_rank (rank_for len lane_rank rank) lane rs
  another_rank len lane_rank rank lane rs counted apart = go lane rs (eqb len 0) refl counted apart
    where
      go : (lane : List T) (rs : List (Ranked T)) (b : Bool) → eqb len 0 ≡ b → len ≡ length lane + length rs → AllByRecursion (IsOfAnother lane_rank) rs
          → IsForAnother lane_rank (cond b rank lane_rank) lane rs
      go lane rs false e counted apart = record { items = refl; apart = apart }
      go [] [] true e counted apart = record { items = refl; apart = tt }
      go [] (r ∷ rs) true e counted apart = absurd (let none : len ≡ 0 = grind (arith, nat_tests) in omega arith)
      go (l ∷ lane) rs true e counted apart = absurd (let none : len ≡ 0 = grind (arith, nat_tests) in omega arith)

-- An item of the lane's rank goes behind the lane's.
module _ {T : Type 0} (rank : ℕ) (item : T) where
  own : ltb rank rank ≡ false
  own = grind (arith, nat_tests)

  joins-last : (lane : List T) → put_behind rank_of (at_rank rank item) (map (at_rank rank) lane) ≡ map (at_rank rank) (lane ++ item ∷ [])
  joins-last [] = refl
  joins-last (l ∷ lane) = rw own (ap (λ k. at_rank rank l ∷ k) (joins-last lane))

  joins-before : (lane : List T) (r : Ranked T) (rs : List (Ranked T)) → ltb r.rank rank ≡ true
      → put_behind rank_of (at_rank rank item) (map (at_rank rank) lane ++ r ∷ rs) ≡ map (at_rank rank) (lane ++ item ∷ []) ++ r ∷ rs
  joins-before [] r rs lower = rw lower
  joins-before (l ∷ lane) r rs lower = rw own (ap (λ k. at_rank rank l ∷ k) (joins-before lane r rs lower))

  pub joins_lane : (lane : List T) (rs : List (Ranked T)) → AllByRecursion (IsOfAnother rank) rs
      → joined rank item (items_among rank lane rs) ≡ items_among rank (lane ++ item ∷ []) rs
  joins_lane lane [] apart = joins-last lane
  joins_lane lane (r ∷ rs) apart = go (ltb rank r.rank) refl (joins_lane lane rs apart.1)
    where
      go : (b : Bool) → ltb rank r.rank ≡ b → joined rank item (items_among rank lane rs) ≡ items_among rank (lane ++ item ∷ []) rs
          → joined rank item (items_among rank lane (r ∷ rs)) ≡ items_among rank (lane ++ item ∷ []) (r ∷ rs)
      go true e more =
          let test : ltb r.rank rank ≡ false = grind (arith, nat_tests) in
          rw (e, test) (ap (λ k. r ∷ k) more)
      go false e more =
          let other : r.rank ≢ rank = apart.0 in
          let lower : ltb r.rank rank ≡ true = grind (arith, nat_tests) in
          rw e (joins-before lane r rs lower)

-- An item of another rank joins the others.
module _ {T : Type 0} (rank : ℕ) (x : Ranked T) where
  before : (lane : List T) (rs : List (Ranked T)) → ltb rank x.rank ≡ true → put_behind rank_of x rs ≡ x ∷ rs
      → put_behind rank_of x (map (at_rank rank) lane ++ rs) ≡ x ∷ map (at_rank rank) lane ++ rs
  before [] rs e h = h
  before (l ∷ lane) rs e h = rw e

  past : (lane : List T) (rs : List (Ranked T)) → ltb rank x.rank ≡ false
      → put_behind rank_of x (map (at_rank rank) lane ++ rs) ≡ map (at_rank rank) lane ++ put_behind rank_of x rs
  past [] rs e = refl
  past (l ∷ lane) rs e = rw e (ap (λ k. at_rank rank l ∷ k) (past lane rs e))

  before-all : (lane : List T) → ltb rank x.rank ≡ true → put_behind rank_of x (map (at_rank rank) lane) ≡ x ∷ map (at_rank rank) lane
  before-all [] e = refl
  before-all (l ∷ lane) e = rw e

  past-all : (lane : List T) → ltb rank x.rank ≡ false → put_behind rank_of x (map (at_rank rank) lane) ≡ map (at_rank rank) lane ++ x ∷ []
  past-all [] e = refl
  past-all (l ∷ lane) e = rw e (ap (λ k. at_rank rank l ∷ k) (past-all lane e))

  pub joins_others : (lane : List T) (rs : List (Ranked T)) → x.rank ≢ rank → AllByRecursion (IsOfAnother rank) rs
      → put_behind rank_of x (items_among rank lane rs) ≡ items_among rank lane (put_behind rank_of x rs)
  joins_others lane [] other apart = go (ltb rank x.rank) refl
    where
      go : (b : Bool) → ltb rank x.rank ≡ b → put_behind rank_of x (items_among rank lane []) ≡ items_among rank lane (x ∷ [])
      go true e = before-all lane e ∙ sym (rw e)
      go false e = past-all lane e ∙ sym (rw e)
  joins_others lane (r ∷ rs) other apart = go (ltb rank r.rank) (ltb r.rank x.rank) (ltb rank x.rank) refl refl refl (joins_others lane rs other apart.1)
    where
      go : (a b c : Bool) → ltb rank r.rank ≡ a → ltb r.rank x.rank ≡ b → ltb rank x.rank ≡ c
          → put_behind rank_of x (items_among rank lane rs) ≡ items_among rank lane (put_behind rank_of x rs)
          → put_behind rank_of x (items_among rank lane (r ∷ rs)) ≡ items_among rank lane (put_behind rank_of x (r ∷ rs))
      go true true true e f d more = rw (e, f, d, e)
      go true true false e f d more = absurd (let p : rank < r.rank = grind (arith, nat_tests) in let q : r.rank < x.rank = grind (arith, nat_tests) in let s : x.rank ≤ rank = grind (arith, nat_tests) in omega arith)
      go true false c e f d more = rw (e, f, e) (ap (λ k. r ∷ k) more)
      go false true true e f d more = let first : put_behind rank_of x (r ∷ rs) ≡ x ∷ r ∷ rs = rw f in rw (e, f, d, e) (before lane (r ∷ rs) d first)
      go false true false e f d more = let first : put_behind rank_of x (r ∷ rs) ≡ x ∷ r ∷ rs = rw f in rw (e, f, d) (past lane (r ∷ rs) d ∙ ap (λ k. map (at_rank rank) lane ++ k) first)
      go false false true e f d more =
          absurd (let apart_one : r.rank ≢ rank = apart.0 in let p : r.rank ≤ rank = grind (arith, nat_tests) in let q : x.rank ≤ r.rank = grind (arith, nat_tests) in let s : rank < x.rank = grind (arith, nat_tests) in omega arith)
      go false false false e f d more = let last : put_behind rank_of x (r ∷ rs) ≡ r ∷ put_behind rank_of x rs = rw f in rw (e, f, e) (past lane (r ∷ rs) d ∙ ap (λ k. map (at_rank rank) lane ++ k) last)

second_of_two : (a b : Bool) → a ≡ false → not a && b ≡ false → b ≡ false
second_of_two true b e h = absurd (let never : true ≡ false = e in cc)
second_of_two false b e h = h

-- What comes out next, where it is none of the lane's.
module _ {T : Type 0} (rank : ℕ) where
  -- whether the lane's first item comes out before the first of the others
  abbrev pub is_lane_next : List T → List (Ranked T) → Bool
  is_lane_next lane rs = goes_before_others rank (eqb (length lane) 0) (first_rank rs)

  pub other_first : (lane : List T) (r : Ranked T) (rs : List (Ranked T)) → AllByRecursion (IsOfAnother rank) (r ∷ rs) → is_lane_next lane (r ∷ rs) ≡ false
      → items_among rank lane (r ∷ rs) ≡ r ∷ items_among rank lane rs
  other_first lane r rs apart next = go lane (ltb rank r.rank) refl next
    where
      go : (lane : List T) (b : Bool) → ltb rank r.rank ≡ b → is_lane_next lane (r ∷ rs) ≡ false → items_among rank lane (r ∷ rs) ≡ r ∷ items_among rank lane rs
      go lane true e next = rw e
      go [] false e next = rw e (ap (λ k. r ∷ k) (sym (placed-none rank rs)))
      go (l ∷ lane) false e next =
          let some : eqb (length (l ∷ lane)) 0 ≡ false = grind (arith, nat_tests) in
          let lower : ltb r.rank rank ≡ false = second_of_two (eqb (length (l ∷ lane)) 0) (ltb r.rank rank) some next in
          absurd (let other : r.rank ≢ rank = apart.0 in let p : r.rank ≤ rank = grind (arith, nat_tests) in let q : rank ≤ r.rank = grind (arith, nat_tests) in other (omega arith))

  pub other_next : (lane : List T) (rs : List (Ranked T)) → AllByRecursion (IsOfAnother rank) rs → is_lane_next lane rs ≡ false
      → drop 1 (items_among rank lane rs) ≡ items_among rank lane (drop 1 rs)
  other_next lane [] apart next = absurd (let never : true ≡ false = next in cc)
  other_next lane (r ∷ rs) apart next = ap (drop 1) (other_first lane r rs apart next)
