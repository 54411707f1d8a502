-- A dispatcher's thread looks into the mails of its node.
use Rattle.std.proofs.Common.{◌≡◌, ◌≢◌, ◌<◌, ◌≤◌, ℕ, zero, suc, ◌+◌, Bool, true, false, List, [], ◌∷◌, Some, arith, refl, sym, ap, subst, ◌∙◌}
use Rattle.std.specs.Prelude.{◌==◌, ◌||◌, length, slice_get, slice_set}
use Rattle.std.proofs.lemmas.Bool.{eqb-true, eqb-false}
use Rattle.std.proofs.lemmas.Option.{none-some, same_Some, slice_get_past}
use Rattle.m2_dispatch.specs.m2_shared.declared.ids.Ids.{Ids}
use Rattle.m2_dispatch.specs.declared.parcel.Parcel.{Parcel}
use Rattle.m2_mailbox.specs.declared.passes.GetPass.{GetPass}
use Rattle.m2_node.specs.Dispatching.{AreRightsAt, DispatcherNow, Looks, LooksAt, LooksBefore, Mail, ServingNow}
use Rattle.m2_node.proofs.TakenOut.{set_here}

set_there : {X : Type 0} (xs : List X) (j : ℕ) (x y : X) → slice_get xs j ≡ Some x → slice_get (slice_set xs j y) j ≡ Some y
set_there [] j x y here = absurd (none-some x here)
set_there (w ∷ xs) zero x y here = refl
set_there (w ∷ xs) (suc j) x y here = set_there xs j x y here

set_others : {X : Type 0} (xs : List X) (j i : ℕ) (y : X) → i ≢ j → slice_get (slice_set xs j y) i ≡ slice_get xs i
set_others [] j i y apart = refl
set_others (x ∷ xs) zero zero y apart = absurd (apart refl)
set_others (x ∷ xs) zero (suc i) y apart = refl
set_others (x ∷ xs) (suc j) zero y apart = refl
set_others (x ∷ xs) (suc j) (suc i) y apart = set_others xs j i y (λ s. apart (ap suc s))

-- by one look into one of them
pub looks_at : (mails : List Mail) (s : ServingNow) (d : DispatcherNow) (j : ℕ) (any : Bool) (g h : GetPass Parcel Ids) → slice_get s.gets j ≡ Some g → Looks any g h
    → LooksAt mails j any s (record s { dispatcher = d; gets = slice_set s.gets j h })
looks_at mails s d j any g h at_get looks = record {
  looks = λ m k l at rights.
      let old : g ≡ k = same_Some g k (sym at_get ∙ rights.0) in
      let new : l ≡ h = set_here s.gets j g h l at_get rights.1 in
      subst (λ k. Looks any k l) old (subst (λ l. Looks any g l) (sym new) looks);
  some = λ is. (g, h, (at_get, set_there s.gets j g h at_get), subst (λ b. Looks b g h) is looks);
  others = λ i apart. set_others s.gets j i h apart;
}

-- where its node has no such mail there is nothing to look into
pub looks_nowhere : (mails : List Mail) (s : ServingNow) (j : ℕ) → length mails ≤ s.first + j → LooksAt mails j false s s
looks_nowhere mails s j past = record {
  looks = λ m g h at rights. absurd (none-some m (sym (slice_get_past mails (s.first + j) past) ∙ at));
  some = λ is. absurd (cc is);
  others = λ i apart. refl;
}

-- into none at first
pub looks_before_none : (mails : List Mail) (s : ServingNow) → LooksBefore mails 0 false s s
looks_before_none mails s = record {
  each = λ j m g h below at rights. absurd (omega (arith, below));
  some = λ is. absurd (cc is);
  others = λ j within. refl;
}

both_false : (a b : Bool) → (a || b) ≡ false → (a ≡ false) × (b ≡ false)
both_false true b e = absurd (cc e)
both_false false b e = (refl, e)

-- and then into one more
module _ (mails : List Mail) (k : ℕ) (any one : Bool) (old mid new : ServingNow) (first : mid.first ≡ old.first) (before : LooksBefore mails k any old mid) (now : LooksAt mails k one mid new) where
  each_looked : (j : ℕ) (m : Mail) (g h : GetPass Parcel Ids) → j < k + 1 → slice_get mails (old.first + j) ≡ Some m → AreRightsAt j old new g h
      → (o : Bool) × Looks o g h × ((any || one) ≡ false → o ≡ false)
  each_looked j m g h below at rights = go (j == k) refl
    where
      go : (c : Bool) → (j == k) ≡ c → (o : Bool) × Looks o g h × ((any || one) ≡ false → o ≡ false)
      go true e =
          let same : j ≡ k = eqb-true j k e in
          let was : slice_get mid.gets k ≡ Some g = before.others k (omega arith) ∙ subst (λ (i : ℕ). slice_get old.gets i ≡ Some g) same rights.0 in
          let is : slice_get new.gets k ≡ Some h = subst (λ (i : ℕ). slice_get new.gets i ≡ Some h) same rights.1 in
          let there : slice_get mails (mid.first + k) ≡ Some m = subst (λ (f : ℕ). slice_get mails (f + k) ≡ Some m) (sym first) (subst (λ (i : ℕ). slice_get mails (old.first + i) ≡ Some m) same at) in
          (one, now.looks m g h there (was, is), λ none. (both_false any one none).1)
      go false e =
          let apart : j ≢ k = eqb-false j k e in
          let earlier = before.each j m g h (omega (arith, below, apart)) at (rights.0, sym (now.others j apart) ∙ rights.1) in
          (earlier.0, earlier.1, λ none. earlier.2 (both_false any one none).0)

  some_looked : (b : Bool) → any ≡ b → (b || one) ≡ true → (j : ℕ) × (j < k + 1) × (g : GetPass Parcel Ids) × (h : GetPass Parcel Ids) × AreRightsAt j old new g h × Looks true g h
  some_looked true is e =
      let it = before.some is in
      let apart : it.0 ≢ k = λ same. absurd (omega (arith, it.1, same)) in
      (it.0, omega (arith, it.1), it.2, it.3, (it.4.0, now.others it.0 apart ∙ it.4.1), it.5)
  some_looked false is e =
      let it = now.some e in
      (k, omega arith, it.0, it.1, (sym (before.others k (omega arith)) ∙ it.2.0, it.2.1), it.3)

  pub looks_on : LooksBefore mails (k + 1) (any || one) old new
  looks_on = record {
    each = each_looked;
    some = some_looked any refl;
    others = λ j within. now.others j (λ same. absurd (omega (arith, within, same))) ∙ before.others j (omega (arith, within));
  }
