-- The messages of a lane that are kept, those of it that wait, and the next that comes to be kept.
use Rattle.std.proofs.Common.{◌≡◌, ℕ, ◌+◌, ◌-◌, ◌<◌, ◌≤◌, true, false, not, List, [], ◌∷◌, ◌++◌, length, map, take, drop, get_or, min, Some, ltb, eqb, refl, sym, ap, ◌∙◌, arith}
use Rattle.std.proofs.lemmas.List.{drop-drop, drop_more, length-append, length-drop, length-take, same_lists, places, take_more}
use Rattle.std.proofs.lemmas.Bool.{and_parts}
use Rattle.std.proofs.lemmas.Bool.Decides.{nat_tests}
use Rattle.std.specs.List.{AllByRecursion}
use Rattle.m2_queues.specs.PriorityQueue.{Ranked, item_of, first_item}
use Rattle.m2_queues.specs.PriorityQueueFields.{at_rank, items_among, IsOfAnother}
use Rattle.m2_queues.proofs.Lanes.{is_lane_next, other_first}

-- the first n of the kept ones go: a of the front, and then those of the lane
module _ {T : Type 0} (n a t : ℕ) (front lane : List T) (first : a ≡ min n (length front)) (kept : n ≤ length (front ++ take t lane)) where
  pub kept_rest : drop a front ++ take (t - (n - a)) (drop (n - a) lane) ≡ drop n (front ++ take t lane)
  kept_rest = same_lists _ _ (grind (arith, places)) (λ k d h. grind (arith, places))

  pub waiting_rest : drop (t - (n - a)) (drop (n - a) lane) ≡ drop t lane
  waiting_rest = drop-drop (t - (n - a)) (n - a) lane ∙ ap (λ k. drop k lane) (omega (arith, length-append front (take t lane), length-take t lane))

module _ {T : Type 0} (rank : ℕ) where
  lane_first : (x : T) (lane : List T) (rs : List (Ranked T)) → is_lane_next rank (x ∷ lane) rs ≡ true → items_among rank (x ∷ lane) rs ≡ at_rank rank x ∷ items_among rank lane rs
  lane_first x lane [] next = refl
  lane_first x lane (r ∷ rs) next =
      let lower : ltb r.rank rank ≡ true = (and_parts (not (eqb (length (x ∷ lane)) 0)) (ltb r.rank rank) next).1 in
      let above : ltb rank r.rank ≡ false = grind (arith, nat_tests) in
      rw above

  -- the first of the lane that waits is the last of it that is kept
  pub record IsKeptNext (n : ℕ) (lane : List T) (rs : List (Ranked T)) : Type 0 where
    pub kept : take (n + 1) lane ≡ take n lane ++ map item_of (take 1 (items_among rank (drop n lane) rs))
    pub waiting : items_among rank (drop (n + 1) lane) rs ≡ drop 1 (items_among rank (drop n lane) rs)

  pub lane_kept : (n : ℕ) (lane : List T) (rs : List (Ranked T)) → is_lane_next rank (drop n lane) rs ≡ true → 0 < length (drop n lane) + length rs → IsKeptNext n lane rs
  lane_kept n lane rs next some = go (drop n lane) rs refl next some
    where
      go : (l : List T) (rs : List (Ranked T)) → drop n lane ≡ l → is_lane_next rank l rs ≡ true → 0 < length l + length rs → IsKeptNext n lane rs
      go [] [] e next some = absurd (omega (arith, some))
      go [] (r ∷ rs) e next some = absurd (let never : false ≡ true = next in cc)
      go (x ∷ l) rs e next some =
          let within : n < length lane = omega (arith, length-drop n lane, ap length e) in
          let split : get_or lane n x ∷ drop (n + 1) lane ≡ x ∷ l = sym (drop_more lane n x within) ∙ e in
          let one : get_or lane n x ≡ x = cc in
          let rest : drop (n + 1) lane ≡ l = cc in
          record { kept = rw (e, lane_first x l rs next, take_more lane n x within, one); waiting = rw (e, lane_first x l rs next, rest) }

  -- where the first of the others is next
  pub other_item : (x : T) (lane : List T) (rs : List (Ranked T)) → AllByRecursion (IsOfAnother rank) rs → is_lane_next rank lane rs ≡ false → first_item rs ≡ Some x
      → map item_of (take 1 (items_among rank lane rs)) ≡ x ∷ []
  other_item x lane [] apart next e = absurd (let never : true ≡ false = next in cc)
  other_item x lane (r ∷ rs) apart next e = let same : r.item ≡ x = cc in ap (λ l. map item_of (take 1 l)) (other_first rank lane r rs apart next) ∙ ap (λ i. i ∷ []) same
