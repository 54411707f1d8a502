-- Sockets of which none is newer than the newest.
use Rattle.std.proofs.Common.{◌≡◌, ◌≤◌, ◌<◌, ◌||◌, Bool, true, false, List, [], ◌∷◌, ◌++◌, map, refl, sym, ap, arith, subst}
use Rattle.std.specs.List.{list_any}
use Rattle.m2_fabric.specs.Kept.{cleared}
use Rattle.m2_fabric.specs.Newest.{AreBelow, are_alike, newest_of, newest_turn, with_turn}
use Rattle.m2_fabric.specs.Sockets.{same_socket}
use Rattle.m2_fabric.specs.declared.kept.Kept.{Kept}
use Rattle.m2_fabric.specs.declared.newest.Newest.{Newest}
use Rattle.m2_fabric.specs.declared.socket.SocketId.{SocketId}
use Rattle.m2_fabric.proofs.Sockets.{same_equal}
use Rattle.m2_fabric.proofs.Turns.{same_number}

alike_refl : (a : SocketId) → are_alike a a ≡ true
alike_refl a = rw (same_number a.from_ip, same_number a.from_port, same_number a.to_ip, same_number a.to_port) refl

pub below_one : (k : Kept) (n : Newest) → n ≡ newest_of k.id → AreBelow n (k ∷ [])
below_one k n e = rw (e, alike_refl k.id) (omega arith, tt)

-- ---- of one socket more

more_turn : (n : Newest) (id x : SocketId) → newest_turn n x ≤ newest_turn (with_turn id n) x
more_turn n id x = by_both (are_alike n.first id) (are_alike n.first x) refl refl
  where
    by_both : (p q : Bool) → are_alike n.first id ≡ p → are_alike n.first x ≡ q → newest_turn n x ≤ newest_turn (with_turn id n) x
    by_both true true e f = rw (e, f) (omega arith)
    by_both true false e f = rw (e, f) (omega arith)
    by_both false true e f = rw (e, f) (omega arith)
    by_both false false e f = rw (e, f) (omega arith)

turn_here : (n : Newest) (id : SocketId) → id.turn ≤ newest_turn (with_turn id n) id
turn_here n id = by_kind (are_alike n.first id) refl
  where
    by_kind : (p : Bool) → are_alike n.first id ≡ p → id.turn ≤ newest_turn (with_turn id n) id
    by_kind true e = rw e (omega arith)
    by_kind false e = rw e (omega arith)

pub below_last : (n : Newest) (k : Kept) (ks : List Kept) → AreBelow n ks → AreBelow (with_turn k.id n) (ks ++ k ∷ [])
below_last n k [] b = (turn_here n k.id, tt)
below_last n k (x ∷ ks) b = (omega (arith, b.0, more_turn n k.id x.id), below_last n k ks b.1)

-- ---- a socket that is newer

pub newer_is_none : (n : Newest) (id : SocketId) (ks : List Kept) → AreBelow n ks → newest_turn n id < id.turn
    → list_any (λ (k : Kept). same_socket k.id id) ks ≡ false
newer_is_none n id [] b h = refl
newer_is_none n id (k ∷ ks) b h = by_first (same_socket k.id id) refl (newer_is_none n id ks b.1 h)
  where
    by_first : (s : Bool) → same_socket k.id id ≡ s → list_any (λ (k : Kept). same_socket k.id id) ks ≡ false
        → (s || list_any (λ (k : Kept). same_socket k.id id) ks) ≡ false
    by_first false e rest = rest
    by_first true e rest =
        let same : k.id ≡ id = same_equal k.id id e in
        let most : newest_turn n k.id ≡ newest_turn n id = ap (newest_turn n) same in
        let turn : k.id.turn ≡ id.turn = ap (λ (i : SocketId). i.turn) same in
        absurd (omega (arith, b.0, h, most, turn))

-- ---- the same sockets

below_cleared : (n : Newest) (ks : List Kept) → AreBelow n ks → AreBelow n (map cleared ks)
below_cleared n [] b = tt
below_cleared n (k ∷ ks) b = (b.0, below_cleared n ks b.1)

below_of_cleared : (n : Newest) (ks : List Kept) → AreBelow n (map cleared ks) → AreBelow n ks
below_of_cleared n [] b = tt
below_of_cleared n (k ∷ ks) b = (b.0, below_of_cleared n ks b.1)

pub below_by_same : (n : Newest) (old new : List Kept) → map cleared new ≡ map cleared old → AreBelow n old → AreBelow n new
below_by_same n old new same b = below_of_cleared n new (subst (AreBelow n) (sym same) (below_cleared n old b))
