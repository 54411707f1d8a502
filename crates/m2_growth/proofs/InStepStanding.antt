-- Sockets that a port made have their ends, and those that wait do so as they did.
use Rattle.std.proofs.Common.{◌≡◌, ◌⊎◌, inl, inr, ◌&&◌, ◌||◌, not, Bool, true, false, if◌then◌else◌, List, [], ◌∷◌, ◌++◌, Option, Some, None, refl, sym, ap, subst, ◌∙◌, append_assoc}
use Rattle.std.specs.Prelude.{IsSome, unwrap_or}
use Rattle.std.specs.Option.{is_some}
use Rattle.m2_fabric.specs.declared.socket.SocketId.{SocketId}
use Rattle.m2_fabric.specs.End.{SeenEnd}
use Rattle.m2_fabric.specs.Sockets.{is_among, same_socket}
use Rattle.m2_turn.specs.m2_record.RecordNow.{ids_of}
use Rattle.m2_turn.specs.m2_record.Sources.{end_at}
use Rattle.m2_growth.specs.Ends.{AreOfTheirOwn}
use Rattle.m2_growth.specs.Holding.{AreOwn, Grows, Holding, all_ends, ends_held, waiting_at}
use Rattle.m2_growth.proofs.Ends.{end_append, first_of, own_apart}
use Rattle.m2_growth.proofs.Going.{grows_by, grows_then}
use Rattle.m2_growth.proofs.Owned.{held_apart}
use Rattle.m2_growth.specs.Ports.{PortStands, waits_there}
use Rattle.m2_growth.proofs.Growing.{still_there}
use Rattle.m2_fabric.proofs.m2_lemmas.Booleans.{both_of_and, false_isnt_true}

-- ---- the end of a socket among others

some_first : (o p : Option SeenEnd) → IsSome o → IsSome (first_of o p)
some_first (Some e) p is = refl
some_first None p is = absurd (false_isnt_true is)

some_second : (o p : Option SeenEnd) → IsSome p → IsSome (first_of o p)
some_second (Some e) p is = refl
some_second None p is = is

pub some_front : (xs ys : List SeenEnd) (k : SocketId) → IsSome (end_at xs k) → IsSome (end_at (xs ++ ys) k)
some_front xs ys k is = ap is_some (end_append xs ys k) ∙ some_first (end_at xs k) (end_at ys k) is

pub some_back : (xs ys : List SeenEnd) (k : SocketId) → IsSome (end_at ys k) → IsSome (end_at (xs ++ ys) k)
some_back xs ys k is = ap is_some (end_append xs ys k) ∙ some_second (end_at xs k) (end_at ys k) is

pub some_end : (k : SocketId) (es : List SeenEnd) → is_among k (ids_of es) ≡ true → IsSome (end_at es k)
some_end k [] is = absurd (false_isnt_true is)
some_end k (e ∷ es) is = at (same_socket k e.id) is (some_end k es)
  where
    at : (b : Bool) → (b || is_among k (ids_of es)) ≡ true → (is_among k (ids_of es) ≡ true → IsSome (end_at es k)) → IsSome (if b then Some e else end_at es k)
    at true is rest = refl
    at false is rest = rest is

pub is_end : (k : SocketId) (es : List SeenEnd) → IsSome (end_at es k) → is_among k (ids_of es) ≡ true
is_end k [] is = absurd (false_isnt_true is)
is_end k (e ∷ es) is = at (same_socket k e.id) is (is_end k es)
  where
    at : (b : Bool) → IsSome (if b then Some e else end_at es k) → (IsSome (end_at es k) → is_among k (ids_of es) ≡ true) → (b || is_among k (ids_of es)) ≡ true
    at true is rest = refl
    at false is rest = rest is

none_end : (k : SocketId) (es : List SeenEnd) → is_among k (ids_of es) ≡ false → end_at es k ≡ None
none_end k es none = at (end_at es k) refl
  where
    at : (o : Option SeenEnd) → end_at es k ≡ o → o ≡ None
    at None is = refl
    at (Some e) is = absurd (false_isnt_true (sym none ∙ is_end k es (ap is_some is)))

no_end : (k : SocketId) (es : List SeenEnd) → end_at es k ≡ None → is_among k (ids_of es) ≡ false
no_end k es none = at (is_among k (ids_of es)) refl
  where
    at : (b : Bool) → is_among k (ids_of es) ≡ b → b ≡ false
    at false is = refl
    at true is = absurd (false_isnt_true (sym (ap is_some none) ∙ some_end k es is))

-- ---- a port

pub stands_alike : (a b : Holding) → b.port.made ≡ a.port.made → b.port.waiting ≡ a.port.waiting → PortStands a b
stands_alike a b made waiting = record {
  made = λ k is. inl (ap (is_among k) (sym made) ∙ is);
  gone = [];
  waiting = ap (λ o. unwrap_or o []) (sym waiting);
}

pub stands_same : (a b : Holding) → b.port ≡ a.port → PortStands a b
stands_same a b same = stands_alike a b (ap (λ p. p.made) same) (ap (λ p. p.waiting) same)

pub stands_then : (a b c : Holding) → PortStands a b → PortStands b c → Grows b c → PortStands a c
stands_then a b c p q g = record {
  made = λ k is. later k (q.made k is);
  gone = p.gone ++ q.gone;
  waiting = p.waiting ∙ ap (λ l. p.gone ++ l) q.waiting ∙ sym (append_assoc p.gone q.gone (waiting_at c.port));
}
  where
    before : (k : SocketId) → (is_among k a.port.made ≡ true) ⊎ IsSome (end_at (all_ends b) k) → (is_among k a.port.made ≡ true) ⊎ IsSome (end_at (all_ends c) k)
    before k (inl was) = inl was
    before k (inr there) = inr (still_there (end_at (all_ends b) k) (end_at (all_ends c) k) (g.grows.ends k) there)

    later : (k : SocketId) → (is_among k b.port.made ≡ true) ⊎ IsSome (end_at (all_ends c) k) → (is_among k a.port.made ≡ true) ⊎ IsSome (end_at (all_ends c) k)
    later k (inl was) = before k (p.made k was)
    later k (inr there) = inr there

-- and the holding grows
pub record Stands (a b : Holding) : Type 0 where
  pub grows : Grows a b
  pub port : PortStands a b

pub both_then : (a b c : Holding) → Stands a b → Stands b c → Stands a c
both_then a b c p q = record { grows = grows_then a b c p.grows q.grows; port = stands_then a b c p.port q.port q.grows }

pub both_by : (a b : Holding) → b ≡ a → AreOwn a → Stands a b
both_by a b same own = record { grows = grows_by a b same own; port = stands_same a b (ap (λ (h : Holding). h.port) same) }

-- ---- those that wait

pub waits_still : (old new : Holding) → AreOwn old → PortStands old new → (k : SocketId) → waits_there new k ≡ true →
    (waits_there old k ≡ true) × (end_at (all_ends new) k ≡ end_at (all_ends old) k)
waits_still old new own port k waits = (
  ap (λ b. b && not (is_among k (ids_of (ends_held old)))) (is_end k (waiting_at old.port) waited) ∙ ap not (no_end k (ends_held old) unheld),
  now ∙ sym was,
)
  where
    still : List SeenEnd
    still = waiting_at new.port

    here : (is_among k (ids_of still) ≡ true) × (not (is_among k (ids_of (ends_held new))) ≡ true)
    here = both_of_and (is_among k (ids_of still)) (not (is_among k (ids_of (ends_held new)))) waits

    waited : IsSome (end_at (waiting_at old.port) k)
    waited = subst (λ es. IsSome (end_at es k)) (sym port.waiting) (some_back port.gone still k (some_end k still here.0))

    by_parts : (xs ys : List SeenEnd) → IsSome (end_at ys k) → (end_at xs k ≡ None) ⊎ (end_at ys k ≡ None) → end_at xs k ≡ None
    by_parts xs ys is (inl none) = none
    by_parts xs ys is (inr none) = absurd (false_isnt_true (sym (ap is_some none) ∙ is))

    unheld : end_at (ends_held old) k ≡ None
    unheld = by_parts (ends_held old) (waiting_at old.port) waited (held_apart old own k)

    ungone : end_at port.gone k ≡ None
    ungone = by_parts port.gone still (some_end k still here.0) (own_apart port.gone still (subst AreOfTheirOwn port.waiting own.waiting) k)

    by_not : (b : Bool) → not b ≡ true → b ≡ false
    by_not false is = refl
    by_not true is = absurd (false_isnt_true is)

    behind : (xs ys : List SeenEnd) → end_at xs k ≡ None → end_at (xs ++ ys) k ≡ end_at ys k
    behind xs ys none = end_append xs ys k ∙ ap (λ o. first_of o (end_at ys k)) none

    now : end_at (all_ends new) k ≡ end_at still k
    now = behind (ends_held new) still (none_end k (ends_held new) (by_not (is_among k (ids_of (ends_held new))) here.1))

    was : end_at (all_ends old) k ≡ end_at still k
    was = behind (ends_held old) (waiting_at old.port) unheld ∙ (ap (λ es. end_at es k) port.waiting ∙ behind port.gone still ungone)
