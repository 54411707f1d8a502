-- Parcels are taken out of one mail, and dispatched.
use Rattle.std.proofs.Common.{◌≡◌, ℕ, zero, suc, ◌+◌, Bool, true, false, List, [], ◌∷◌, ◌++◌, map, Some, refl, sym, ap, subst, ◌∙◌}
use Rattle.std.specs.Prelude.{◌==◌, slice_get, slice_set}
use Rattle.std.proofs.lemmas.Bool.{eqb-true, eqb-false}
use Rattle.std.proofs.lemmas.Option.{none-some, same_Some}
use Rattle.m2_bytes.proofs.m2_lemmas.Lists.{set_keeps_length}
use Rattle.m2_dispatch.specs.Heard.{Heard, heard_by}
use Rattle.m2_dispatch.specs.Parcel.{heard_for_all}
use Rattle.m2_dispatch.specs.declared.parcel.Parcel.{Parcel}
use Rattle.m2_dispatch.specs.m2_shared.declared.ids.Ids.{Ids}
use Rattle.m2_mailbox.specs.Merge.{IsMerge}
use Rattle.m2_mailbox.specs.Passes.{IsGetPassOf, taken_of}
use Rattle.m2_mailbox.specs.declared.passes.GetPass.{GetPass}
use Rattle.m2_node.specs.Dispatching.{DispatcherNow, HasDispatched, IsServing, Mail, Serves, ServingNow, taken_by, throttles_of}
use Rattle.m2_node.proofs.Dispatched.{heard_for_both}
use Rattle.m2_node.proofs.Merging.{merge_at}

-- what stands at a place where one item was set: that one there, and elsewhere what stood there
pub set_here : {X : Type 0} (xs : List X) (j : ℕ) (x y z : X) → slice_get xs j ≡ Some x → slice_get (slice_set xs j y) j ≡ Some z → z ≡ y
set_here [] j x y z here e = absurd (none-some x here)
set_here (w ∷ xs) zero x y z here e = sym (same_Some y z e)
set_here (w ∷ xs) (suc j) x y z here e = set_here xs j x y z here e

set_elsewhere : {X : Type 0} (xs : List X) (j i : ℕ) (y z : X) → (i ≡ j → ⊥) → slice_get (slice_set xs j y) i ≡ Some z → slice_get xs i ≡ Some z
set_elsewhere [] j i y z apart e = e
set_elsewhere (x ∷ xs) zero zero y z apart e = absurd (apart refl)
set_elsewhere (x ∷ xs) zero (suc i) y z apart e = e
set_elsewhere (x ∷ xs) (suc j) zero y z apart e = e
set_elsewhere (x ∷ xs) (suc j) (suc i) y z apart e = set_elsewhere xs j i y z (λ s. apart (ap suc s)) e

module _ (mails : List Mail) (s : ServingNow) (d : DispatcherNow) (j : ℕ) (m : Mail) (g h : GetPass Parcel Ids) (more : List Parcel) (at_mail : slice_get mails (s.first + j) ≡ Some m)
    (at_get : slice_get s.gets j ≡ Some g) (ours : IsGetPassOf m h) (taken : taken_of h ≡ taken_of g ++ more) (does : HasDispatched more s.dispatcher d) (serving : IsServing mails s) where
  abbrev after : ServingNow
  after = record s { dispatcher = d; gets = slice_set s.gets j h }

  ours_at : (i : ℕ) (n : Mail) (k : GetPass Parcel Ids) → slice_get mails (s.first + i) ≡ Some n → slice_get (slice_set s.gets j h) i ≡ Some k → IsGetPassOf n k × (throttles_of n ≡ d.throttles)
  ours_at i n k a b = go (i == j) refl
    where
      go : (c : Bool) → (i == j) ≡ c → IsGetPassOf n k × (throttles_of n ≡ d.throttles)
      go true e =
          let same : i ≡ j = eqb-true i j e in
          let here : slice_get (slice_set s.gets j h) j ≡ Some k = subst (λ (q : ℕ). slice_get (slice_set s.gets j h) q ≡ Some k) same b in
          let it : k ≡ h = set_here s.gets j g h k at_get here in
          let its : Some m ≡ Some n = sym at_mail ∙ subst (λ (q : ℕ). slice_get mails (s.first + q) ≡ Some n) same a in
          let mail : m ≡ n = same_Some m n its in
          subst (λ (z : Mail). IsGetPassOf z k × (throttles_of z ≡ d.throttles)) mail
          (subst (λ (z : GetPass Parcel Ids). IsGetPassOf m z) (sym it) ours, (serving.ours j m g at_mail at_get).1 ∙ sym does.throttles)
      go false e =
          let apart : i ≡ j → ⊥ = eqb-false i j e in
          let was = serving.ours i n k a (set_elsewhere s.gets j i h k apart b) in
          (was.0, was.1 ∙ sym does.throttles)

  longer : taken_by h ≡ taken_by g ++ heard_for_all more
  longer = ap heard_for_all taken ∙ heard_for_both (taken_of g) more

  pub some_taken : IsServing mails after
  some_taken = record {
    ours = ours_at;
    merged = λ lasted. subst (IsMerge Heard (map taken_by (slice_set s.gets j h))) (sym (does.heard lasted))
        (merge_at taken_by s.gets j g h (heard_by s.dispatcher.log) (heard_for_all more) at_get longer (serving.merged (does.lasted lasted)));
  }

  pub serves_on : Serves s after
  serves_on = record { throttles = does.throttles; count = set_keeps_length s.gets j g h at_get; first = refl; started = refl }

pub serves_not : (s : ServingNow) → Serves s s
serves_not s = record { throttles = refl; count = refl; first = refl; started = refl }

pub serves_then : (a b c : ServingNow) → Serves a b → Serves b c → Serves a c
serves_then a b c x y = record { throttles = y.throttles ∙ x.throttles; count = y.count ∙ x.count; first = y.first ∙ x.first; started = y.started ∙ x.started }
