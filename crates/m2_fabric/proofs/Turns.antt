-- How often sockets stand in lists, and that a socket of the next turn stands in none.
use Rattle.std.proofs.Common.{◌≡◌, ℕ, ◌+◌, ◌≤◌, ◌<◌, max, Bool, true, false, if◌then◌else◌, List, [], ◌∷◌, ◌++◌, fold, refl, sym, ap, ◌∙◌, arith, ◌==◌, ◌&&◌, ◌||◌}
use Rattle.std.proofs.Common.{append-nil}
use Rattle.std.proofs.lemmas.Bool.{and_parts, eq-eqb, eqb-true}
use Rattle.std.proofs.lemmas.List.Sums.{fold-append}
use Rattle.std.proofs.lemmas.List.Folds.{fold-map}
use Rattle.m2_addr.specs.declared.addr.Addr.{Addr}
use Rattle.m2_fabric.specs.End.{SeenEnd}
use Rattle.m2_fabric.specs.Newest.{AreNewest, are_alike, noted}
use Rattle.m2_fabric.specs.Sockets.{is_among, same_socket}
use Rattle.m2_fabric.specs.declared.socket.SocketId.{SocketId}
use Rattle.m2_fabric.specs.Port.{greatest, ids, path, socket_after, turn_on}
use Rattle.m2_fabric.specs.SimPort.{times}
use Rattle.m2_fabric.proofs.Sockets.{same_equal, same_socket_refl}

-- ---- equal names

pub same_number : (n : ℕ) → (n == n) ≡ true
same_number n = eq-eqb n n refl

-- ---- how often

pub times-append : (s : SocketId) (xs ys : List SocketId) → times s (xs ++ ys) ≡ times s xs + times s ys
times-append s [] ys = omega arith
times-append s (x ∷ xs) ys = omega (arith, times-append s xs ys)

pub among_none : (s : SocketId) (xs : List SocketId) → times s xs ≡ 0 → is_among s xs ≡ false
among_none s [] h = refl
among_none s (x ∷ xs) h = by_first (same_socket s x) (among_none s xs) h
  where
    by_first : (b : Bool) → (times s xs ≡ 0 → is_among s xs ≡ false) → (if b then 1 else 0) + times s xs ≡ 0 → (b || is_among s xs) ≡ false
    by_first true rest h = absurd (omega (arith, h))
    by_first false rest h = rest (omega (arith, h))

pub none_among : (s : SocketId) (xs : List SocketId) → is_among s xs ≡ false → times s xs ≡ 0
none_among s [] h = refl
none_among s (x ∷ xs) h = by_first (same_socket s x) (none_among s xs) h
  where
    by_first : (b : Bool) → (is_among s xs ≡ false → times s xs ≡ 0) → (b || is_among s xs) ≡ false → (if b then 1 else 0) + times s xs ≡ 0
    by_first true rest h = absurd (cc)
    by_first false rest h = omega (arith, rest h)

-- a socket that stands nowhere is put between two lists in which each stands once at most
pub once_between : (n s : SocketId) (xs ys : List SocketId) → ((s : SocketId) → times s (xs ++ ys) ≤ 1) → times n (xs ++ ys) ≡ 0
    → times s ((xs ++ n ∷ []) ++ ys) ≤ 1
once_between n s xs ys once none = by_name (same_socket s n) refl
  where
    parts : times s ((xs ++ n ∷ []) ++ ys) ≡ times s xs + times s (n ∷ []) + times s ys
    parts = omega (arith, times-append s (xs ++ n ∷ []) ys, times-append s xs (n ∷ []))

    by_name : (b : Bool) → same_socket s n ≡ b → times s ((xs ++ n ∷ []) ++ ys) ≤ 1
    by_name false e =
        let one : times s (n ∷ []) ≡ 0 = rw e refl in
        omega (arith, parts, once s, times-append s xs ys)
    by_name true e =
        let one : times s (n ∷ []) ≡ 1 = rw e refl in
        let nowhere : times s (xs ++ ys) ≡ 0 = rw (same_equal s n e) none in
        omega (arith, parts, times-append s xs ys)

-- a socket at the end
pub once_at_end : (n s : SocketId) (xs : List SocketId) → ((s : SocketId) → times s xs ≤ 1) → times n xs ≡ 0 → times s (xs ++ n ∷ []) ≤ 1
once_at_end n s xs once none =
    let between : times s ((xs ++ n ∷ []) ++ []) ≤ 1 = once_between n s xs [] (λ s. rw (append-nil xs) (once s)) (rw (append-nil xs) none) in
    rw (append-nil (xs ++ n ∷ [])) at between

-- ---- turns

-- the greatest so far is no less than where it began
greatest_from : (path : SocketId) (most : ℕ) (xs : List SocketId) → most ≤ fold (λ m s. max m (turn_on path s)) most xs
greatest_from path most [] = omega arith
greatest_from path most (x ∷ xs) = omega (arith, greatest_from path (max most (turn_on path x)) xs)

-- a socket of a path above the greatest turn there is none of these
above_all : (path s : SocketId) (most : ℕ) (xs : List SocketId) → same_socket path (record s { turn = 0 }) ≡ true
    → fold (λ m s. max m (turn_on path s)) most xs < s.turn → times s xs ≡ 0
above_all path s most [] on above = refl
above_all path s most (x ∷ xs) on above = by_first (same_socket s x) refl (above_all path s (max most (turn_on path x)) xs on above)
  where
    by_first : (b : Bool) → same_socket s x ≡ b → times s xs ≡ 0 → (if b then 1 else 0) + times s xs ≡ 0
    by_first false e rest = omega (arith, rest)
    by_first true e rest =
        let same : s ≡ x = same_equal s x e in
        let turn : turn_on path s ≡ s.turn = rw on refl in
        let here : turn_on path x ≡ s.turn = rw (← same) turn in
        absurd (omega (arith, here, above, greatest_from path (max most (turn_on path x)) xs))

-- the next socket is none of these
pub next_is_new : (xs : List SocketId) (from to : Addr) → times (socket_after xs from to) xs ≡ 0
next_is_new xs from to = above_all (path from to) (socket_after xs from to) 0 xs (same_socket_refl (path from to)) (omega arith)

-- a socket above the greatest turn of its path is none of these
pub above_is_new : (xs : List SocketId) (id : SocketId) → greatest (record id { turn = 0 }) xs < id.turn → is_among id xs ≡ false
above_is_new xs id above =
    among_none id xs (above_all (record id { turn = 0 }) id 0 xs (same_socket_refl (record id { turn = 0 })) above)

-- ---- the newest of each four numbers

-- the greatest from a number on
greatest_of_two : (path : SocketId) (most : ℕ) (xs : List SocketId)
    → fold (λ m s. max m (turn_on path s)) most xs ≡ max most (greatest path xs)
greatest_of_two path most [] = omega arith
greatest_of_two path most (x ∷ xs) =
    omega (arith, greatest_of_two path (max most (turn_on path x)) xs, greatest_of_two path (max 0 (turn_on path x)) xs)

-- sockets of the same four numbers differ in their turns alone
alike_first : (a b : SocketId) → are_alike a b ≡ true → record a { turn = 0 } ≡ record b { turn = 0 }
alike_first a b h =
    let ip = a.from_ip == b.from_ip in
    let port = a.from_port == b.from_port in
    let to_ip = a.to_ip == b.to_ip in
    let four = and_parts ((ip && port) && to_ip) (a.to_port == b.to_port) h in
    let three = and_parts (ip && port) to_ip four.0 in
    let two = and_parts ip port three.0 in
    rw (eqb-true a.from_ip b.from_ip two.0, eqb-true a.from_port b.from_port two.1, eqb-true a.to_ip b.to_ip three.1, eqb-true a.to_port b.to_port four.1) refl

turns_alike : (path a b : SocketId) → are_alike a b ≡ true → turn_on path (record a { turn = max a.turn b.turn }) ≡ max (turn_on path a) (turn_on path b)
turns_alike path a b h = by_path (same_socket path (record a { turn = 0 })) refl
  where
    other : same_socket path (record b { turn = 0 }) ≡ same_socket path (record a { turn = 0 })
    other = sym (ap (same_socket path) (alike_first a b h))

    by_path : (on : Bool) → same_socket path (record a { turn = 0 }) ≡ on
        → turn_on path (record a { turn = max a.turn b.turn }) ≡ max (turn_on path a) (turn_on path b)
    by_path true e = let f : same_socket path (record b { turn = 0 }) ≡ true = other ∙ e in rw (e, f) refl
    by_path false e = let f : same_socket path (record b { turn = 0 }) ≡ false = other ∙ e in rw (e, f) refl

greatest_noted : (path id : SocketId) (xs : List SocketId) → greatest path (noted id xs) ≡ max (greatest path xs) (turn_on path id)
greatest_noted path id [] = omega arith
greatest_noted path id (x ∷ xs) = by_kind (are_alike x id) refl (greatest_noted path id xs)
  where
    by_kind : (b : Bool) → are_alike x id ≡ b → greatest path (noted id xs) ≡ max (greatest path xs) (turn_on path id)
        → greatest path (if b then record x { turn = max x.turn id.turn } ∷ xs else x ∷ noted id xs) ≡ max (greatest path (x ∷ xs)) (turn_on path id)
    by_kind true e rest = omega (
      arith,
      greatest_of_two path (max 0 (turn_on path (record x { turn = max x.turn id.turn }))) xs,
      greatest_of_two path (max 0 (turn_on path x)) xs,
      turns_alike path x id e,
    )
    by_kind false e rest = omega (arith, greatest_of_two path (max 0 (turn_on path x)) (noted id xs), greatest_of_two path (max 0 (turn_on path x)) xs, rest)

pub newest_more : (newest sockets : List SocketId) (id : SocketId) → AreNewest newest sockets → AreNewest (noted id newest) (sockets ++ id ∷ [])
newest_more newest sockets id n path =
    greatest_noted path id newest
    ∙ ap (λ (m : ℕ). max m (turn_on path id)) (n path)
    ∙ sym (fold-append (λ m s. max m (turn_on path s)) 0 sockets (id ∷ []))

-- the greatest turn among those that were made, and then among those that wait
pub greatest_of_both : (path : SocketId) (made : List SocketId) (ends : List SeenEnd)
    → greatest path (made ++ ids ends) ≡ fold (λ most (e : SeenEnd). max most (turn_on path e.id)) (greatest path made) ends
greatest_of_both path made ends =
    fold-append (λ m s. max m (turn_on path s)) 0 made (ids ends)
    ∙ fold-map (λ m s. max m (turn_on path s)) (λ (e : SeenEnd). e.id) (greatest path made) ends
