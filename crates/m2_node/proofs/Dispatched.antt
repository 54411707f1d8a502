-- What a dispatcher was called with, parcel after parcel.
use Rattle.std.proofs.Common.{◌≡◌, List, [], ◌∷◌, ◌++◌, map, refl, sym, ap, subst, ◌∙◌, append-nil, append_assoc, arith}
use Rattle.std.proofs.lemmas.List.{map-append}
use Rattle.std.proofs.lemmas.List.Concat.{flat_map-append}
use Rattle.m2_dispatch.specs.Heard.{heard_by}
use Rattle.m2_dispatch.specs.Dispatch.{Queued}
use Rattle.m2_dispatch.specs.Letters.{heard_in}
use Rattle.m2_dispatch.specs.Turn.{IsTurn, dispatched}
use Rattle.m2_dispatch.specs.declared.turn.DispatchTurn.TheVariants as turn
use Rattle.m2_dispatch.specs.Parcel.{after_put, heard_at_put, heard_for, heard_for_all}
use Rattle.m2_dispatch.specs.declared.letter.Letter.{Letter}
use Rattle.m2_dispatch.specs.declared.logged.Logged.{Logged}
use Rattle.m2_dispatch.specs.declared.parcel.Parcel.{Parcel}
use Rattle.m2_dispatch.specs.declared.parcel.Parcel.TheVariants as parcel
use Rattle.m2_mailbox.specs.Merge.{IsMerge}
use Rattle.m2_node.specs.Dispatching.{DispatcherNow, DispatchesFirst, HasDispatched, HasEmptied}

pub heard_for_both : (xs ys : List Parcel) → heard_for_all (xs ++ ys) ≡ heard_for_all xs ++ heard_for_all ys
heard_for_both xs ys = flat_map-append heard_for xs ys

-- a parcel that is put where nothing waits, and dispatched until nothing waits
pub put_alone : (x : Parcel) → heard_at_put x ++ map heard_in (after_put x []) ≡ heard_for_all (x ∷ [])
put_alone (parcel.Letter l) = refl
put_alone (parcel.Discard peer) = refl
put_alone (parcel.RemoteReset peer) = refl

pub nothing_dispatched : (d : DispatcherNow) → HasDispatched [] d d
nothing_dispatched d = record { throttles = refl; lasted = λ e. e; heard = λ e. sym (append-nil (heard_by d.log)) }

pub dispatched_then : (xs ys : List Parcel) (a b c : DispatcherNow) → HasDispatched xs a b → HasDispatched ys b c → HasDispatched (xs ++ ys) a c
dispatched_then xs ys a b c first second = record {
  throttles = second.throttles ∙ first.throttles;
  lasted = λ e. first.lasted (second.lasted e);
  heard = λ e. second.heard e ∙ ap (λ l. l ++ heard_for_all ys) (first.heard (second.lasted e)) ∙ append_assoc (heard_by a.log) (heard_for_all xs) (heard_for_all ys)
      ∙ ap (λ l. heard_by a.log ++ l) (sym (heard_for_both xs ys));
}

-- ---- letters

abbrev pub none_first : (q : Queued (List Logged)) → DispatchesFirst q q
none_first q = record { first = []; waiting = refl; heard = sym (append-nil (heard_by q.inner)) }

pub split_first : (old new : List Letter) → IsTurn turn.One old new → old ≡ dispatched turn.One old ++ new
split_first [] new (some, e) = absurd (omega (arith, some))
split_first (l ∷ ls) new (some, e) = ap (λ k. l ∷ k) (sym e)

abbrev pub one_first : (old mid new : Queued (List Logged)) → DispatchesFirst old mid → IsTurn turn.One mid.waiting new.waiting →
    heard_by new.inner ≡ heard_by mid.inner ++ map heard_in (dispatched turn.One mid.waiting) → DispatchesFirst old new
one_first old mid new d turned told =
    let one = dispatched turn.One mid.waiting in
    record {
      first = d.first ++ one;
      waiting = d.waiting ∙ ap (λ l. d.first ++ l) (split_first mid.waiting new.waiting turned) ∙ sym (append_assoc d.first one new.waiting);
      heard = told ∙ ap (λ l. l ++ map heard_in one) d.heard ∙ append_assoc (heard_by old.inner) (map heard_in d.first) (map heard_in one)
          ∙ ap (λ l. heard_by old.inner ++ l) (sym (map-append heard_in d.first one));
    }

-- a parcel was put where nothing waited, and then all was dispatched
pub put_and_dispatched : (x : Parcel) (old mid new : Queued (List Logged)) → old.waiting ≡ [] → mid.waiting ≡ after_put x old.waiting → heard_by mid.inner ≡ heard_by old.inner ++ heard_at_put x →
    DispatchesFirst mid new → new.waiting ≡ [] → heard_by new.inner ≡ heard_by old.inner ++ heard_for_all (x ∷ [])
put_and_dispatched x old mid new none put told d gone =
    let all : after_put x [] ≡ d.first = ap (after_put x) (sym none) ∙ sym put ∙ d.waiting ∙ ap (λ l. d.first ++ l) gone ∙ append-nil d.first in
    d.heard ∙ ap (λ l. l ++ map heard_in d.first) told ∙ append_assoc (heard_by old.inner) (heard_at_put x) (map heard_in d.first)
    ∙ ap (λ l. heard_by old.inner ++ l) (ap (λ ls. heard_at_put x ++ map heard_in ls) (sym all) ∙ put_alone x)

-- ---- a mail that is closed

-- what was taken since, and dispatched
pub record LeftSoFar (got now : List Parcel) (old new : DispatcherNow) : Type 0 where
  pub left : List Parcel
  pub taken : now ≡ got ++ left
  pub dispatched : HasDispatched left old new

pub nothing_left : (got now : List Parcel) (d : DispatcherNow) → now ≡ got → LeftSoFar got now d d
nothing_left got now d same = record { left = []; taken = same ∙ sym (append-nil got); dispatched = nothing_dispatched d }

pub one_left : (got now after : List Parcel) (x : Parcel) (old mid new : DispatcherNow) → LeftSoFar got now old mid → after ≡ now ++ x ∷ [] → HasDispatched (x ∷ []) mid new → LeftSoFar got after old new
one_left got now after x old mid new l more does = record {
  left = l.left ++ x ∷ [];
  taken = more ∙ ap (λ xs. xs ++ x ∷ []) l.taken ∙ append_assoc got l.left (x ∷ []);
  dispatched = dispatched_then l.left (x ∷ []) old mid new l.dispatched does;
}

pub all_left : (puts : List (List Parcel)) (got now : List Parcel) (old new : DispatcherNow) → LeftSoFar got now old new → IsMerge Parcel puts now → HasEmptied puts got old new
all_left puts got now old new l whole = record { left = l.left; whole = subst (IsMerge Parcel puts) l.taken whole; dispatched = l.dispatched }

-- ---- parcels that wait

pub record DispatchedSoFar (all now : List Parcel) (old new : DispatcherNow) : Type 0 where
  pub gone : List Parcel
  pub split : all ≡ gone ++ now
  pub dispatched : HasDispatched gone old new

pub none_gone : (all : List Parcel) (d : DispatcherNow) → DispatchedSoFar all all d d
none_gone all d = record { gone = []; split = refl; dispatched = nothing_dispatched d }

pub one_gone : (all now after : List Parcel) (x : Parcel) (old mid new : DispatcherNow) → DispatchedSoFar all now old mid → now ≡ x ∷ after → HasDispatched (x ∷ []) mid new → DispatchedSoFar all after old new
one_gone all now after x old mid new s first does = record {
  gone = s.gone ++ x ∷ [];
  split = s.split ∙ ap (λ l. s.gone ++ l) first ∙ sym (append_assoc s.gone (x ∷ []) after);
  dispatched = dispatched_then s.gone (x ∷ []) old mid new s.dispatched does;
}

pub all_gone : (all now : List Parcel) (old new : DispatcherNow) → DispatchedSoFar all now old new → now ≡ [] → HasDispatched all old new
all_gone all now old new s none = subst (λ l. HasDispatched l old new) (sym (s.split ∙ ap (λ l. s.gone ++ l) none ∙ append-nil s.gone)) s.dispatched
