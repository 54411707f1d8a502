-- Sockets by their names, and lists of them.
use Rattle.std.proofs.Common.{◌≡◌, Bool, true, false, ◌⊎◌, inl, inr, List, [], ◌∷◌, map, refl, sym, subst}
use Rattle.std.proofs.lemmas.Bool.{or_cases, or_right, or_left}
use Rattle.std.specs.List.{AllByRecursion}
use Rattle.m2_journal.specs.m2_fabric.declared.socket.SocketId.{SocketId}
use Rattle.m2_journal.specs.m2_fabric.Sockets.{is_among, same_socket}
use Rattle.m2_session.specs.SessionLaws as session
use Rattle.m2_journal.specs.Laws.{taken_among}
use Rattle.m2_journal.specs.State.{Judgement}
use Rattle.m2_queues.proofs.m2_lemmas.Booleans.{from_false_true}
use Rattle.m2_journal.proofs.m2_fabric.Sockets.{same_equal, same_refl}

pub by_either : {P Q R : Type 0} → P ⊎ Q → (P → R) → (Q → R) → R
by_either (inl p) f g = f p
by_either (inr q) f g = g q

pub same_of_equal : (a b : SocketId) → a ≡ b → same_socket a b ≡ true
same_of_equal a b e = subst (λ k. same_socket a k ≡ true) e (same_refl a)

-- ---- among

-- what holds of each holds of one of them
pub at_among : (P : SocketId → Type 0) (xs : List SocketId) (k : SocketId) → AllByRecursion P xs →
    is_among k xs ≡ true → P k
at_among P [] k all h = from_false_true h
at_among P (x ∷ xs) k all h =
    by_either (or_cases (same_socket k x) (is_among k xs) h)
    (λ e. subst P (sym (same_equal k x e)) all.0)
    (λ e. at_among P xs k all.1 e)

-- a socket that was taken was judged
pub taken_is_judged : (js : List Judgement) (k : SocketId) → is_among k (taken_among js) ≡ true →
    is_among k (map (λ j. j.socket) js) ≡ true
taken_is_judged [] k h = h
taken_is_judged (j ∷ js) k h = at (session.takes j.item.answer) refl (taken_is_judged js k)
  where
    at : (t : Bool) → session.takes j.item.answer ≡ t →
        (is_among k (taken_among js) ≡ true → is_among k (map (λ j. j.socket) js) ≡ true) →
        is_among k (map (λ j. j.socket) (j ∷ js)) ≡ true
    at true e later =
        by_either (or_cases (same_socket k j.socket) (is_among k (taken_among js)) (rw e at h))
        (λ g. or_left (same_socket k j.socket) _ g)
        (λ g. or_right (same_socket k j.socket) _ (later g))
    at false e later = or_right (same_socket k j.socket) _ (later (rw e at h))

-- ---- a feed that there is or isn't
