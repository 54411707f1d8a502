-- Sockets that are the same, and whether one is among others.
use Rattle.std.proofs.Common.{◌≡◌, false, ◌||◌, List, [], ◌∷◌, ◌++◌, refl, ap, Bool, true, sym, ◌∙◌, ◌&&◌, ◌==◌, subst, ℕ, ◌⊎◌, inl, inr}
use Rattle.std.proofs.lemmas.Bool.{false_from_ne_true, eqb-true, and_parts, eq-eqb, or_right}
use Rattle.m2_fabric.specs.Sockets.{is_among, same_socket}
use Rattle.m2_fabric.specs.declared.socket.SocketId.{SocketId}
use Rattle.m2_bytes.proofs.m2_lemmas.Booleans.{false_isnt_true, from_false_true}

pub among_other : (k x : SocketId) (xs : List SocketId) → same_socket k x ≡ false → is_among k (xs ++ x ∷ []) ≡ is_among k xs
among_other k x [] e = rw e refl
among_other k x (y ∷ ys) e = ap (λ b. same_socket k y || b) (among_other k x ys e)

pub among_front : (k : SocketId) (xs ys : List SocketId) → is_among k xs ≡ true → is_among k (xs ++ ys) ≡ true
among_front k [] ys e = absurd (false_isnt_true e)
among_front k (x ∷ xs) ys e = at (same_socket k x) (among_front k xs ys) e
  where
    at : (b : Bool) → (is_among k xs ≡ true → is_among k (xs ++ ys) ≡ true) → b || is_among k xs ≡ true → b || is_among k (xs ++ ys) ≡ true
    at true rest h = refl
    at false rest h = rest h

pub not_among_front : (k : SocketId) (xs ys : List SocketId) → is_among k (xs ++ ys) ≡ false → is_among k xs ≡ false
not_among_front k xs ys e = false_from_ne_true (is_among k xs) (λ h. from_false_true (sym e ∙ among_front k xs ys h))

pub among_neither : (k : SocketId) (xs ys : List SocketId) → is_among k xs ≡ false → is_among k ys ≡ false → is_among k (xs ++ ys) ≡ false
among_neither k [] ys _ e = e
among_neither k (x ∷ xs) ys e f = at (same_socket k x) (λ h. among_neither k xs ys h f) e
  where
    at : (b : Bool) → (is_among k xs ≡ false → is_among k (xs ++ ys) ≡ false) → b || is_among k xs ≡ false → b || is_among k (xs ++ ys) ≡ false
    at true rest h = h
    at false rest h = rest h

pub same_equal : (a b : SocketId) → same_socket a b ≡ true → a ≡ b
same_equal a b h =
    let ip = a.from_ip == b.from_ip in
    let port = a.from_port == b.from_port in
    let to_ip = a.to_ip == b.to_ip in
    let to_port = a.to_port == b.to_port in
    let five = and_parts (((ip && port) && to_ip) && to_port) (a.turn == b.turn) h in
    let four = and_parts ((ip && port) && to_ip) to_port five.0 in
    let three = and_parts (ip && port) to_ip four.0 in
    let two = and_parts ip port three.0 in
    rw (eqb-true a.from_ip b.from_ip two.0, eqb-true a.from_port b.from_port two.1, eqb-true a.to_ip b.to_ip three.1, eqb-true a.to_port b.to_port four.1, eqb-true a.turn b.turn five.1) refl

pub same_refl : (k : SocketId) → same_socket k k ≡ true
same_refl k = rw (eq-eqb k.from_ip k.from_ip refl, eq-eqb k.from_port k.from_port refl, eq-eqb k.to_ip k.to_ip refl, eq-eqb k.to_port k.to_port refl, eq-eqb k.turn k.turn refl) refl

pub apart_turned : (a b : SocketId) → same_socket a b ≡ false → same_socket b a ≡ false
apart_turned a b e = at (same_socket b a) refl
  where
    at : (c : Bool) → same_socket b a ≡ c → same_socket b a ≡ false
    at false is = is
    at true is = let yes : same_socket a b ≡ true = subst (λ x. same_socket a x ≡ true) (sym (same_equal b a is)) (same_refl a) in absurd cc

pub same_turned : (a b : SocketId) → same_socket a b ≡ same_socket b a
same_turned a b = at (same_socket a b) refl
  where
    at : (c : Bool) → same_socket a b ≡ c → same_socket a b ≡ same_socket b a
    at true e = e ∙ sym (ap (same_socket b) (same_equal a b e) ∙ same_refl b)
    at false e = e ∙ sym (apart_turned a b e)

same_number : (n : ℕ) → (n == n) ≡ true
same_number n = eq-eqb n n refl

pub same_socket_refl : (s : SocketId) → same_socket s s ≡ true
same_socket_refl s = rw (same_number s.from_ip, same_number s.from_port, same_number s.to_ip, same_number s.to_port, same_number s.turn) refl

pub among_part : (k : SocketId) (xs ys : List SocketId) → is_among k (xs ++ ys) ≡ true → (is_among k xs ≡ true) ⊎ (is_among k ys ≡ true)
among_part k [] ys e = inr e
among_part k (x ∷ xs) ys e = at (same_socket k x) e (among_part k xs ys)
  where
    at : (b : Bool) → b || is_among k (xs ++ ys) ≡ true → (is_among k (xs ++ ys) ≡ true → (is_among k xs ≡ true) ⊎ (is_among k ys ≡ true)) → (b || is_among k xs ≡ true) ⊎ (is_among k ys ≡ true)
    at true h rest = inl refl
    at false h rest = rest h

pub among_last : (k : SocketId) (xs : List SocketId) → is_among k (xs ++ k ∷ []) ≡ true
among_last k [] = rw (same_refl k) refl
among_last k (x ∷ xs) = or_right (same_socket k x) _ (among_last k xs)

pub not_among_none : (k : SocketId) (xs : List SocketId) → xs ≡ [] → is_among k xs ≡ false
not_among_none k xs e = rw e refl
