-- Values in a slab with the order of their keys: what one that goes last leaves, and what the first leaves that goes.
use Rattle.std.proofs.Common.{◌≡◌, ◌≢◌, ◌==◌, ℕ, suc, ◌+◌, ◌<◌, ◌≤◌, Bool, true, false, ◌||◌, if◌then◌else◌, List, [], ◌∷◌, ◌++◌, length, Option, Some, None, Result, Ok, Err, OnOk, OnErr, cond, IfSome, IsSome, is_some, unwrap_or, count_by, refl, sym, ap, subst, ◌∙◌, arith}
use Rattle.std.proofs.lemmas.Bool.{eqb-false, eqb-true, ne_eqb}
use Rattle.std.proofs.lemmas.List.{length-append}
use Rattle.std.proofs.lemmas.List.Elements.{filter_map-append}
use Rattle.std.proofs.lemmas.List.Sums.{sum_by-set}
use Rattle.std.specs.List.{AllByRecursion, IsDistinct, cons_option, list_any}
use Rattle.slab.specs.Slab.{Slab, ContainsKey, Updates, get, slab_len, with_value}
use Rattle.slab.proofs.SlabLemmas.{ContainsKey-within, Updates-with_value}
use Rattle.m2_turn.specs.Hearing.{first_told}
use Rattle.m2_turn.specs.Pending.{IsOrderOf, IsToldAt, first_key, in_order, is_found}
use Rattle.m2_bytes.proofs.m2_lemmas.Booleans.{false_isnt_true}
use Rattle.m2_bytes.proofs.m2_lemmas.Lists.{all_last}

-- ---- keys that false_isnt_true from one

abbrev AreOthers : (key : ℕ) → List ℕ → Type 0
AreOthers key keys = AllByRecursion (λ k. k ≢ key) keys

others_of : (key : ℕ) (keys : List ℕ) → AllByRecursion (λ k. (key == k) ≡ false) keys → AreOthers key keys
others_of key [] all = tt
others_of key (k ∷ ks) all = ((λ e. eqb-false key k all.0 (sym e)), others_of key ks all.1)

apart_from : (key : ℕ) (keys : List ℕ) → AreOthers key keys → AllByRecursion (λ k. (k == key) ≡ false) keys
apart_from key [] all = tt
apart_from key (k ∷ ks) all = (ne_eqb k key all.0, apart_from key ks all.1)

one_more : (keys : List ℕ) (key : ℕ) → IsDistinct (λ (a b : ℕ). a == b) keys → AllByRecursion (λ k. (k == key) ≡ false) keys → IsDistinct (λ (a b : ℕ). a == b) (keys ++ key ∷ [])
unfolding IsDistinct
one_more [] key once all = (tt, tt)
one_more (k ∷ ks) key once all = (all_last (λ y. (k == y) ≡ false) ks key once.0 all.0, one_more ks key once.1 all.1)

none_distinct : IsDistinct (λ (a b : ℕ). a == b) []
unfolding IsDistinct
none_distinct = tt

first_of : (key : ℕ) (keys : List ℕ) → IsDistinct (λ (a b : ℕ). a == b) (key ∷ keys) → AllByRecursion (λ k. (key == k) ≡ false) keys × IsDistinct (λ (a b : ℕ). a == b) keys
unfolding IsDistinct
first_of key keys once = once

zero_least : (most : ℕ) → 0 ≤ most
zero_least most = omega arith

module _ {T : Type 0} where
  -- ---- what one key changes

  vacant_differs : (s : Slab T) (key : ℕ) (keys : List ℕ) → get s key ≡ None → AllByRecursion (ContainsKey s) keys → AreOthers key keys
  vacant_differs s key [] none held = tt
  vacant_differs s key (k ∷ ks) none held = ((λ e. false_isnt_true (subst IsSome (ap (get s) e ∙ none) held.0)), vacant_differs s key ks none held.1)

  still_held : (old new : Slab T) (key : ℕ) (slot : Option T) (keys : List ℕ) → Updates old new key slot → AreOthers key keys → AllByRecursion (ContainsKey old) keys → AllByRecursion (ContainsKey new) keys
  still_held old new key slot [] updates others held = tt
  still_held old new key slot (k ∷ ks) updates others held =
      (subst IsSome (sym (updates.others k others.0)) held.0, still_held old new key slot ks updates others.1 held.1)

  same_elsewhere : (old new : Slab T) (key : ℕ) (slot : Option T) (keys : List ℕ) → Updates old new key slot → AreOthers key keys → in_order new keys ≡ in_order old keys
  same_elsewhere old new key slot [] updates others = refl
  same_elsewhere old new key slot (k ∷ ks) updates others =
      ap (λ o. cons_option o (in_order new ks)) (updates.others k others.0) ∙ ap (cons_option (get old k)) (same_elsewhere old new key slot ks updates others.1)

  -- ---- how many there are

  pub length-in_order : (s : Slab T) (keys : List ℕ) → AllByRecursion (ContainsKey s) keys → length (in_order s keys) ≡ length keys
  length-in_order s [] held = refl
  length-in_order s (k ∷ ks) held = at (get s k) held.0 (length-in_order s ks held.1)
    where
      at : (o : Option T) → IsSome o → length (in_order s ks) ≡ length ks → length (cons_option o (in_order s ks)) ≡ suc (length ks)
      at (Some x) some rest = ap suc rest
      at None none rest = absurd (false_isnt_true none)

  -- ---- none

  pub made : (s : Slab T) (most : ℕ) (keys : List ℕ) → s.slots ≡ [] → keys ≡ [] → most ≤ s.capacity → IsOrderOf s most keys
  made s most keys empty none room = rw none (record {
    held = tt;
    once = none_distinct;
    all = ap (count_by is_some) empty;
    few = zero_least most;
    room = room;
  })

  -- ---- one more, which goes last

  pub pushed : (old new : Slab T) (most key : ℕ) (x : T) (keys : List ℕ) → IsOrderOf old most keys → get old key ≡ None → Updates old new key (Some x) →
      slab_len new ≡ slab_len old + 1 → new.capacity ≡ old.capacity → length keys < most → IsOrderOf new most (keys ++ key ∷ [])
  pushed old new most key x keys order none updates more same fewer =
      let others = vacant_differs old key keys none order.held in
      record {
        held = all_last (ContainsKey new) keys key (still_held old new key (Some x) keys updates others order.held) (ap is_some updates.changed);
        once = one_more keys key order.once (apart_from key keys others);
        all = omega (arith, more, order.all, length-append keys (key ∷ []));
        few = omega (arith, fewer, length-append keys (key ∷ []));
        room = omega (arith, same, order.room);
      }

  pub pushed_last : (old new : Slab T) (most key : ℕ) (x : T) (keys : List ℕ) → IsOrderOf old most keys → get old key ≡ None → Updates old new key (Some x) →
      in_order new (keys ++ key ∷ []) ≡ in_order old keys ++ x ∷ []
  pushed_last old new most key x keys order none updates =
      filter_map-append (get new) keys (key ∷ [])
      ∙ ap (λ l. l ++ in_order new (key ∷ [])) (same_elsewhere old new key (Some x) keys updates (vacant_differs old key keys none order.held))
      ∙ ap (λ o. in_order old keys ++ cons_option o []) updates.changed

  -- ---- the first of them goes

  pub popped : (old new : Slab T) (most key : ℕ) (keys : List ℕ) → IsOrderOf old most (key ∷ keys) → Updates old new key None → slab_len new + 1 ≡ slab_len old →
      new.capacity ≡ old.capacity → IsOrderOf new most keys
  popped old new most key keys order updates fewer same =
      let once = first_of key keys order.once in
      record {
        held = still_held old new key None keys updates (others_of key keys once.0) order.held.1;
        once = once.1;
        all = omega (arith, fewer, order.all);
        few = omega (arith, order.few);
        room = omega (arith, same, order.room);
      }

  pub popped_first : (old new : Slab T) (most key : ℕ) (x : T) (keys : List ℕ) → IsOrderOf old most (key ∷ keys) → get old key ≡ Some x → Updates old new key None →
      in_order old (key ∷ keys) ≡ x ∷ in_order new keys
  popped_first old new most key x keys order found updates =
      ap (λ o. cons_option o (in_order old keys)) found
      ∙ ap (λ l. x ∷ l) (sym (same_elsewhere old new key None keys updates (others_of key keys (first_of key keys order.once).0)))

  -- ---- the first that passes

  pub first_passes : (passes : T → Bool) (s : Slab T) (key : ℕ) (keys : List ℕ) → first_key passes s keys ≡ Some key → is_found passes (get s key) ≡ true
  first_passes passes s key [] e = absurd (false_isnt_true (ap is_some e))
  first_passes passes s key (k ∷ ks) e = at (is_found passes (get s k)) refl e (λ h. first_passes passes s key ks h)
    where
      at : (b : Bool) → is_found passes (get s k) ≡ b → (if b then Some k else first_key passes s ks) ≡ Some key →
          (first_key passes s ks ≡ Some key → is_found passes (get s key) ≡ true) → is_found passes (get s key) ≡ true
      at true h same rest = ap (λ o. is_found passes (get s (unwrap_or o k))) (sym same) ∙ h
      at false h later rest = rest later

  pub first_held : (passes : T → Bool) (s : Slab T) (key : ℕ) (keys : List ℕ) → first_key passes s keys ≡ Some key → ContainsKey s key
  first_held passes s key keys e = at (get s key) (first_passes passes s key keys e)
    where
      at : (o : Option T) → is_found passes o ≡ true → IsSome o
      at (Some x) h = refl
      at None h = absurd (false_isnt_true h)

  pub any_first : (passes : T → Bool) (s : Slab T) (keys : List ℕ) → is_some (first_key passes s keys) ≡ list_any passes (in_order s keys)
  any_first passes s [] = refl
  any_first passes s (k ∷ ks) = at (get s k) (any_first passes s ks)
    where
      by : (x : T) (b : Bool) → is_some (first_key passes s ks) ≡ list_any passes (in_order s ks) → is_some (if b then Some k else first_key passes s ks) ≡ (b || list_any passes (in_order s ks))
      by x true rest = refl
      by x false rest = rest

      at : (o : Option T) → is_some (first_key passes s ks) ≡ list_any passes (in_order s ks) →
          is_some (if is_found passes o then Some k else first_key passes s ks) ≡ list_any passes (cons_option o (in_order s ks))
      at (Some x) rest = by x (passes x) rest
      at None rest = rest

  pub none_told : (passes : T → Bool) (tells : T → T) (s : Slab T) (keys : List ℕ) → first_key passes s keys ≡ None → in_order s keys ≡ first_told passes tells (in_order s keys)
  none_told passes tells s [] e = refl
  none_told passes tells s (k ∷ ks) e = at (get s k) e (λ h. none_told passes tells s ks h)
    where
      Rest : Type 0
      Rest = first_key passes s ks ≡ None → in_order s ks ≡ first_told passes tells (in_order s ks)

      by : (x : T) (b : Bool) → (if b then Some k else first_key passes s ks) ≡ None → Rest → x ∷ in_order s ks ≡ (if b then tells x ∷ in_order s ks else x ∷ first_told passes tells (in_order s ks))
      by x true none rest = absurd (false_isnt_true (sym (ap is_some none)))
      by x false none rest = ap (λ l. x ∷ l) (rest none)

      at : (o : Option T) → (if is_found passes o then Some k else first_key passes s ks) ≡ None → Rest → cons_option o (in_order s ks) ≡ first_told passes tells (cons_option o (in_order s ks))
      at (Some x) none rest = by x (passes x) none rest
      at None none rest = rest none

  first_changed : (passes : T → Bool) (tells : T → T) (old new : Slab T) (key : ℕ) (x : T) (keys : List ℕ) → IsDistinct (λ (a b : ℕ). a == b) keys → get old key ≡ Some x →
      Updates old new key (Some (tells x)) → first_key passes old keys ≡ Some key → in_order new keys ≡ first_told passes tells (in_order old keys)
  first_changed passes tells old new key x [] once found updates e = absurd (false_isnt_true (ap is_some e))
  first_changed passes tells old new key x (k ∷ ks) once found updates e =
      at (is_found passes (get old k)) refl e (λ once h. first_changed passes tells old new key x ks once found updates h)
    where
      parts : AllByRecursion (λ y. (k == y) ≡ false) ks × IsDistinct (λ (a b : ℕ). a == b) ks
      parts = first_of k ks once

      here : k ≡ key → is_found passes (get old k) ≡ true → in_order new (k ∷ ks) ≡ first_told passes tells (in_order old (k ∷ ks))
      here same h =
          let was = ap (get old) same ∙ found in
          let others = subst (λ j. AreOthers j ks) same (others_of k ks parts.0) in
          ap (λ o. cons_option o (in_order new ks)) (ap (get new) same ∙ updates.changed)
          ∙ ap (λ l. tells x ∷ l) (same_elsewhere old new key (Some (tells x)) ks updates others)
          ∙ sym (ap (λ b. if b then tells x ∷ in_order old ks else x ∷ first_told passes tells (in_order old ks)) (sym (ap (is_found passes) was) ∙ h))
          ∙ sym (ap (λ o. first_told passes tells (cons_option o (in_order old ks))) was)

      further : (o : Option T) → is_found passes o ≡ false → in_order new ks ≡ first_told passes tells (in_order old ks) → cons_option o (in_order new ks) ≡ first_told passes tells (cons_option o (in_order old ks))
      further (Some y) h rest = ap (λ l. y ∷ l) rest ∙ sym (ap (λ b. if b then tells y ∷ in_order old ks else y ∷ first_told passes tells (in_order old ks)) h)
      further None h rest = rest

      other : is_found passes (get old k) ≡ false → first_key passes old ks ≡ Some key → k ≢ key
      other h rest same = false_isnt_true (sym h ∙ ap (λ j. is_found passes (get old j)) same ∙ first_passes passes old key ks rest)

      at : (b : Bool) → is_found passes (get old k) ≡ b → (if b then Some k else first_key passes old ks) ≡ Some key →
          (IsDistinct (λ (a b : ℕ). a == b) ks → first_key passes old ks ≡ Some key → in_order new ks ≡ first_told passes tells (in_order old ks)) →
          in_order new (k ∷ ks) ≡ first_told passes tells (in_order old (k ∷ ks))
      at true h same rest = here (ap (λ o. unwrap_or o k) same) h
      at false h later rest =
          ap (λ o. cons_option o (in_order new ks)) (updates.others k (other h later))
          ∙ further (get old k) h (rest parts.1 later)

  -- ---- what one that was told leaves

  told_by : (tells : T → T) (old new : Slab T) (key : ℕ) → ContainsKey old key → IsToldAt old new key tells → (x : T) × (get old key ≡ Some x) × (new ≡ with_value old key (tells x))
  told_by tells old new key held is = at (get old key) held is
    where
      at : (o : Option T) → IsSome o → IfSome o (λ x. new ≡ with_value old key (tells x)) → (x : T) × (o ≡ Some x) × (new ≡ with_value old key (tells x))
      at (Some x) some told = (x, refl, told)
      at None some told = absurd (false_isnt_true some)

  pub first_is_told : (passes : T → Bool) (tells : T → T) (old new : Slab T) (most key : ℕ) (keys : List ℕ) → IsOrderOf old most keys → first_key passes old keys ≡ Some key →
      IsToldAt old new key tells → in_order new keys ≡ first_told passes tells (in_order old keys)
  first_is_told passes tells old new most key keys order e is =
      let held = first_held passes old key keys e in
      let (x, found, told) = told_by tells old new key held is in
      subst (λ s. in_order s keys ≡ first_told passes tells (in_order old keys)) (sym told)
      (first_changed passes tells old (with_value old key (tells x)) key x keys order.once found (Updates-with_value old key (tells x) held) e)

  abbrev one_for : Option T → ℕ
  one_for o = cond (is_some o) 1 0

  counts_one : (o : Option T) → IsSome o → one_for o ≡ 1
  counts_one (Some x) some = refl
  counts_one None some = absurd (false_isnt_true some)

  same_count : (old : Slab T) (key : ℕ) (x : T) → ContainsKey old key → slab_len (with_value old key x) ≡ slab_len old
  same_count old key x held =
      omega (arith, sum_by-set (λ (o : Option T). cond (is_some o) 1 0) old.slots key (Some x) None (ContainsKey-within old key held), counts_one (get old key) held)

  held_still : (old new : Slab T) (key : ℕ) (x : T) (k : ℕ) → Updates old new key (Some x) → ContainsKey old k → ContainsKey new k
  held_still old new key x k updates held = at (k == key) refl
    where
      at : (b : Bool) → (k == key) ≡ b → ContainsKey new k
      at true same = ap (λ j. is_some (get new j)) (eqb-true k key same) ∙ ap is_some updates.changed
      at false other = subst IsSome (sym (updates.others k (eqb-false k key other))) held

  all_held : (old new : Slab T) (key : ℕ) (x : T) (keys : List ℕ) → Updates old new key (Some x) → AllByRecursion (ContainsKey old) keys → AllByRecursion (ContainsKey new) keys
  all_held old new key x [] updates held = tt
  all_held old new key x (k ∷ ks) updates held = (held_still old new key x k updates held.0, all_held old new key x ks updates held.1)

  pub told_order : (tells : T → T) (old new : Slab T) (most key : ℕ) (keys : List ℕ) → IsOrderOf old most keys → ContainsKey old key → IsToldAt old new key tells → IsOrderOf new most keys
  told_order tells old new most key keys order held is =
      let (x, found, told) = told_by tells old new key held is in
      subst (λ s. IsOrderOf s most keys) (sym told) (record {
        held = all_held old (with_value old key (tells x)) key (tells x) keys (Updates-with_value old key (tells x) held) order.held;
        once = order.once;
        all = same_count old key (tells x) held ∙ order.all;
        few = order.few;
        room = order.room;
      })

  -- told, or left for want of memory
  pub heard_order : {E : Type 0} (r : Result (Unit {0}) E) (tells : T → T) (old new : Slab T) (most key : ℕ) (keys : List ℕ) → IsOrderOf old most keys → ContainsKey old key →
      OnOk r (IsToldAt old new key tells) → OnErr r (new ≡ old) → IsOrderOf new most keys
  heard_order {E} (Ok done) tells old new most key keys order held ok err = told_order tells old new most key keys order held ok
  heard_order {E} (Err e) tells old new most key keys order held ok err = subst (λ s. IsOrderOf s most keys) (sym err) order

  pub heard_first : {E : Type 0} (r : Result (Unit {0}) E) (passes : T → Bool) (tells : T → T) (old new : Slab T) (most key : ℕ) (keys : List ℕ) → IsOrderOf old most keys →
      first_key passes old keys ≡ Some key → OnOk r (IsToldAt old new key tells) → OnOk r (in_order new keys ≡ first_told passes tells (in_order old keys))
  heard_first {E} (Ok done) passes tells old new most key keys order e ok = first_is_told passes tells old new most key keys order e ok
  heard_first {E} (Err x) passes tells old new most key keys order e ok = tt
