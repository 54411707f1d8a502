-- Each socket has one end among all of a holding.
use Rattle.std.proofs.Common.{◌≡◌, inl, inr, Bool, true, false, List, [], ◌∷◌, None, refl, sym, ap, ◌∙◌}
use Rattle.std.specs.List.{AllByRecursion}
use Rattle.m2_fabric.specs.declared.socket.SocketId.{SocketId}
use Rattle.m2_fabric.specs.End.{SeenEnd}
use Rattle.m2_fabric.specs.Port.{SeenPort}
use Rattle.m2_fabric.specs.Sockets.{goes_to, is_among, same_socket}
use Rattle.m2_turn.specs.m2_record.Sources.{end_at}
use Rattle.m2_growth.specs.Ends.{AreOfTheirOwn}
use Rattle.m2_growth.specs.Holding.{AreOwn, Holding, IsToCome, all_ends, ends_held, waiting_at}
use Rattle.m2_growth.proofs.Ends.{AreApart, among_or_not, made_none, none_cons, own_join}
use Rattle.m2_fabric.proofs.m2_lemmas.Booleans.{false_isnt_true}
use Rattle.m2_fabric.proofs.Sockets.{same_equal}

-- none of those that wait is of a socket that was made
pub waiting_unmade : (p : SeenPort) (ends : List SeenEnd) (k : SocketId) → AllByRecursion (IsToCome p) ends → is_among k p.made ≡ true → end_at ends k ≡ None
waiting_unmade p [] k all made = refl
waiting_unmade p (e ∷ es) k all made = at (same_socket k e.id) refl (waiting_unmade p es k all.1 made)
  where
    at : (b : Bool) → same_socket k e.id ≡ b → end_at es k ≡ None → end_at (e ∷ es) k ≡ None
    at true same rest = absurd (false_isnt_true (sym all.0.new ∙ ap (λ j. is_among j p.made) (sym (same_equal k e.id same)) ∙ made))
    at false other rest = none_cons e es k other rest

-- nor of one that goes elsewhere
pub waiting_here : (p : SeenPort) (ends : List SeenEnd) (k : SocketId) → AllByRecursion (IsToCome p) ends → goes_to p.at k ≡ false → end_at ends k ≡ None
waiting_here p [] k all away = refl
waiting_here p (e ∷ es) k all away = at (same_socket k e.id) refl (waiting_here p es k all.1 away)
  where
    at : (b : Bool) → same_socket k e.id ≡ b → end_at es k ≡ None → end_at (e ∷ es) k ≡ None
    at true same rest = absurd (false_isnt_true (sym away ∙ ap (goes_to p.at) (same_equal k e.id same) ∙ all.0.here))
    at false other rest = none_cons e es k other rest

pub held_apart : (h : Holding) → AreOwn h → AreApart (ends_held h) (waiting_at h.port)
held_apart h own k = elim (among_or_not (is_among k h.port.made))
    [ inl made ↦ inr (waiting_unmade h.port (waiting_at h.port) k own.to_come made) | inr new ↦ inl (made_none h.port.made (ends_held h) k own.made new) ]

pub own_all : (h : Holding) → AreOwn h → AreOfTheirOwn (all_ends h)
own_all h own = own_join (ends_held h) (waiting_at h.port) own.held own.waiting (held_apart h own)
