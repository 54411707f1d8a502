-- The list that contracts see of the heap's items: it doesn't depend on how they lie in the heap, a
-- new post goes behind its rank, and the heap's top is its head.
use Rattle.std.proofs.Common.{◌≡◌, ◌≢◌, ℕ, ◌+◌, ◌<◌, get_or, Some, Bool, true, false, not, cond, List, [], ◌∷◌, length, map, refl, sym, ap, ◌∙◌, arith, subst, IsPermutation, ltb}
use Rattle.std.specs.List.{AllByRecursion}
use Rattle.std.proofs.lemmas.List.{length-map}
use Rattle.std.specs.BinaryHeap.{IsUpperBound}
use Rattle.std.proofs.lemmas.Bool.Decides.{nat_tests}
use Rattle.std.proofs.lemmas.List.Elements.{recursion_from_All, All-from_recursion}
use Rattle.std.proofs.lemmas.List.Sorted.{All-permutation, IsPermutation-refl}
use Rattle.m2_queues.specs.declared.stable_heap.Posted.{Posted}
use Rattle.m2_queues.specs.PriorityQueue.{joined, first_item, first_rank}
use Rattle.m2_queues.specs.StableHeapFields.{posted_cmp, comes_before, put_in_order, in_order, ranked_of, items_of, AreApart, IsEarlier}
use Rattle.m2_queues.proofs.Permuted.{along_permutation}

module _ {T : Type 0} where
  flips : (x y : Posted T) → x.post.0 ≢ y.post.0 → comes_before y x ≡ not (comes_before x y)
  flips x y apart = grind (arith, nat_tests)

  between : (x y z : Posted T) → comes_before z x ≡ false → comes_before z y ≡ true → comes_before x y ≡ true
  between x y z p q = grind (arith, nat_tests)

  later : (x y : Posted T) → y.post.0 < x.post.0 → comes_before y x ≡ not (ltb y.rank x.rank)
  later x y p = grind (arith, nat_tests)

  -- two posts go in order whichever is put first
  put-turn : (x y : Posted T) (s : List (Posted T)) → x.post.0 ≢ y.post.0 → put_in_order x (put_in_order y s) ≡ put_in_order y (put_in_order x s)
  put-turn x y [] apart = go (comes_before x y) refl
    where
      go : (b : Bool) → comes_before x y ≡ b → cond (comes_before y x) (y ∷ x ∷ []) (x ∷ y ∷ []) ≡ cond (comes_before x y) (x ∷ y ∷ []) (y ∷ x ∷ [])
      go true e = rw (flips x y apart, e)
      go false e = rw (flips x y apart, e)
  put-turn x y (z ∷ s) apart = go (comes_before z x) (comes_before z y) (comes_before x y) refl refl refl (put-turn x y s apart)
    where
      go : (a b c : Bool) → comes_before z x ≡ a → comes_before z y ≡ b → comes_before x y ≡ c
          → put_in_order x (put_in_order y s) ≡ put_in_order y (put_in_order x s)
          → put_in_order x (put_in_order y (z ∷ s)) ≡ put_in_order y (put_in_order x (z ∷ s))
      go true true c e f d more = rw (f, e, f) (ap (λ l. z ∷ l) more)
      go true false c e f d more = rw (f, between y x z f e, e, f)
      go false true c e f d more = rw (f, e, between x y z e f, f)
      go false false true e f d more = rw (f, e, flips x y apart, d, f)
      go false false false e f d more = rw (f, e, flips x y apart, d)

  pub every-put : (P : Posted T → Type 0) (x : Posted T) (xs : List (Posted T)) → P x → AllByRecursion P xs → AllByRecursion P (put_in_order x xs)
  every-put P x [] h all = (h, tt)
  every-put P x (y ∷ ys) h all =
      elim (comes_before y x) as (λ b. AllByRecursion P (cond b (y ∷ put_in_order x ys) (x ∷ y ∷ ys))) [ true ↦ (all.0, every-put P x ys h all.1) | false ↦ (h, all) ]

  pub every-in_order : (P : Posted T → Type 0) (xs : List (Posted T)) → AllByRecursion P xs → AllByRecursion P (in_order xs)
  every-in_order P [] all = tt
  every-in_order P (x ∷ xs) all = every-put P x _ all.0 (every-in_order P xs all.1)

  length-put : (x : Posted T) (xs : List (Posted T)) → length (put_in_order x xs) ≡ length xs + 1
  length-put x [] = refl
  length-put x (y ∷ ys) =
      elim (comes_before y x) as (λ b. length (cond b (y ∷ put_in_order x ys) (x ∷ y ∷ ys)) ≡ length (y ∷ ys) + 1) [ true ↦ omega (arith, length-put x ys) | false ↦ omega arith ]

  pub length-items_of : (xs : List (Posted T)) → length (items_of xs) ≡ length xs
  length-items_of xs = length-map (in_order xs) ranked_of ∙ go xs
    where
      go : (ys : List (Posted T)) → length (in_order ys) ≡ length ys
      go [] = refl
      go (y ∷ ys) = length-put y (in_order ys) ∙ omega (arith, go ys)

  -- what a permutation keeps
  record IsReordered (xs ys : List (Posted T)) : Type 0 where
    apart : AreApart xs → AreApart ys
    others : (n : ℕ) → AllByRecursion (λ z. z.post.0 ≢ n) xs → AllByRecursion (λ z. z.post.0 ≢ n) ys
    same : AreApart xs → in_order ys ≡ in_order xs

  reordered : (xs ys : List (Posted T)) → IsPermutation xs ys → IsReordered xs ys
  reordered = along_permutation IsReordered
      (λ xs. record { apart = λ h. h; others = λ n h. h; same = λ h. refl })
      (λ x xs ys r. record { apart = λ h. (r.others x.post.0 h.0, r.apart h.1); others = λ n h. (h.0, r.others n h.1); same = λ h. ap (put_in_order x) (r.same h.1) })
      (λ x y xs. record {
        apart = λ h. ((λ e. h.0.0 (sym e), h.1.0), (h.0.1, h.1.1));
        others = λ n h. (h.1.0, (h.0, h.1.1));
        same = λ h. put-turn y x (in_order xs) h.0.0;
      })
      (λ xs ys zs r s. record { apart = λ h. s.apart (r.apart h); others = λ n h. s.others n (r.others n h); same = λ h. s.same (r.apart h) ∙ r.same h })

  every_permuted : (P : Posted T → Type 0) (xs ys : List (Posted T)) → IsPermutation xs ys → AllByRecursion P xs → AllByRecursion P ys
  every_permuted P xs ys p all = recursion_from_All P ys (All-permutation P xs ys p (All-from_recursion P xs all))

  every_weaker : (P Q : Posted T → Type 0) → ((x : Posted T) → P x → Q x) → (xs : List (Posted T)) → AllByRecursion P xs → AllByRecursion Q xs
  every_weaker P Q f [] all = tt
  every_weaker P Q f (x ∷ xs) all = (f x all.0, every_weaker P Q f xs all.1)

  -- a later post goes behind all of its rank
  items-put : (n : ℕ) (x : Posted T) (xs : List (Posted T)) → x.post.0 ≡ n → AllByRecursion (IsEarlier n) xs
      → map ranked_of (put_in_order x xs) ≡ joined x.rank x.item (map ranked_of xs)
  items-put n x [] at all = refl
  items-put n x (y ∷ ys) at all = go (ltb y.rank x.rank) refl (items-put n x ys at all.1)
    where
      test : comes_before y x ≡ not (ltb y.rank x.rank)
      test = later x y (omega (arith, all.0))

      go : (b : Bool) → ltb y.rank x.rank ≡ b
          → map ranked_of (put_in_order x ys) ≡ joined x.rank x.item (map ranked_of ys)
          → map ranked_of (put_in_order x (y ∷ ys)) ≡ joined x.rank x.item (ranked_of y ∷ map ranked_of ys)
      go true e more = rw (test, e)
      go false e more = rw (test, e) (ap (λ l. ranked_of y ∷ l) more)

  pub record IsPut (n : ℕ) (x : Posted T) (old new : List (Posted T)) : Type 0 where
    pub apart : AreApart new
    pub earlier : AllByRecursion (IsEarlier (n + 1)) new
    pub items : items_of new ≡ joined x.rank x.item (items_of old)

  pub after_put : (n : ℕ) (x : Posted T) (old new : List (Posted T)) → x.post.0 ≡ n → IsPermutation (x ∷ old) new → AreApart old → AllByRecursion (IsEarlier n) old → IsPut n x old new
  after_put n x old new at moved apart all =
      let both : AreApart (x ∷ old) = (every_weaker (IsEarlier n) (λ y. y.post.0 ≢ x.post.0) (λ y h e. absurd (omega (arith, h))) old all, apart) in
      let r = reordered (x ∷ old) new moved in
      record {
        apart = r.apart both;
        earlier = every_permuted (IsEarlier (n + 1)) (x ∷ old) new moved (omega arith, every_weaker (IsEarlier n) (IsEarlier (n + 1)) (λ y h. omega (arith, h)) old all);
        items = ap (map ranked_of) (r.same both) ∙ items-put n x (in_order old) at (every-in_order (IsEarlier n) old all);
      }

  put-first : (x : Posted T) (s : List (Posted T)) → AllByRecursion (λ y. comes_before y x ≡ false) s → put_in_order x s ≡ x ∷ s
  put-first x [] all = refl
  put-first x (y ∷ ys) all = rw all.0

  -- the heap's top is the head of the line
  top_first : (x : Posted T) (old new : List (Posted T)) → IsPermutation old (x ∷ new) → IsUpperBound posted_cmp x new → AreApart old → items_of old ≡ ranked_of x ∷ items_of new
  top_first x old new moved top apart =
      let r = reordered old (x ∷ new) moved in
      ap (map ranked_of) (sym (r.same apart) ∙ put-first x (in_order new) (every-in_order (λ y. comes_before y x ≡ false) new top))

  pub record IsTaken (n : ℕ) (x : Posted T) (old new : List (Posted T)) : Type 0 where
    pub apart : AreApart new
    pub earlier : AllByRecursion (IsEarlier n) new
    pub items : items_of old ≡ ranked_of x ∷ items_of new

  pub after_take : (n : ℕ) (x : Posted T) (old new : List (Posted T)) → IsPermutation old (x ∷ new) → IsUpperBound posted_cmp x new → AreApart old → AllByRecursion (IsEarlier n) old → IsTaken n x old new
  after_take n x old new moved top apart all = record {
    apart = ((reordered old (x ∷ new) moved).apart apart).1;
    earlier = (every_permuted (IsEarlier n) old (x ∷ new) moved all).1;
    items = top_first x old new moved top apart;
  }

  -- what lies first in the heap, with nothing greater in it, is what comes out next
  pub first_of : (x : Posted T) (xs : List (Posted T)) → 0 < length xs → x ≡ get_or xs 0 x → IsUpperBound posted_cmp x xs → AreApart xs → Some x.item ≡ first_item (items_of xs)
  first_of x [] some is top apart = absurd (omega arith)
  first_of x (y ∷ ys) some is top apart =
      let upper : IsUpperBound posted_cmp y (y ∷ ys) = subst (λ (z : Posted T). IsUpperBound posted_cmp z (y ∷ ys)) is top in
      rw (top_first y (y ∷ ys) ys (IsPermutation-refl (y ∷ ys)) upper.1 apart) (ap (λ (z : Posted T). Some z.item) is)

  pub first_rank_of : (x : Posted T) (xs : List (Posted T)) → 0 < length xs → x ≡ get_or xs 0 x → IsUpperBound posted_cmp x xs → AreApart xs → Some x.rank ≡ first_rank (items_of xs)
  first_rank_of x [] some is top apart = absurd (omega arith)
  first_rank_of x (y ∷ ys) some is top apart =
      let upper : IsUpperBound posted_cmp y (y ∷ ys) = subst (λ (z : Posted T). IsUpperBound posted_cmp z (y ∷ ys)) is top in
      rw (top_first y (y ∷ ys) ys (IsPermutation-refl (y ∷ ys)) upper.1 apart) (ap (λ (z : Posted T). Some z.rank) is)
