-- A map from names to places, made from the last socket to the first.
use Rattle.std.proofs.Common.{◌≡◌, ℕ, zero, suc, ◌+◌, ◌<◌, ◌≤◌, Bool, true, false, cond, ◌==◌, if◌then◌else◌, List, [], ◌∷◌, length, drop, Option, Some, None, refl, sym, ap, ◌∙◌, subst, arith}
use Rattle.std.specs.Prelude.{is_some, slice_index_or}
use Rattle.std.specs.Option.{unwrap_or}
use Rattle.std.specs.Map.{lookup}
use Rattle.std.proofs.lemmas.Bool.{eq-eqb, eqb-true}
use Rattle.m2_fabric.specs.declared.socket.SocketId.{SocketId}
use Rattle.m2_fabric.specs.Sockets.{is_among, same_socket}
use Rattle.m2_weave.specs.Counting.{place_in}
use Rattle.m2_weave.specs.Table.{Five, five_of, found_from, same_five}
use Rattle.m2_bytes.proofs.m2_lemmas.Numbers.{past_at}

number_turned : (a b : ℕ) → (a == b) ≡ (b == a)
number_turned a b = at (a == b) (b == a) refl refl
  where
    at : (s t : Bool) → (a == b) ≡ s → (b == a) ≡ t → s ≡ t
    at true true e f = refl
    at false false e f = refl
    at true false e f = sym (eq-eqb b a (sym (eqb-true a b e))) ∙ f
    at false true e f = sym e ∙ eq-eqb a b (sym (eqb-true b a f))

same_turned : (a b : SocketId) → same_five (five_of a) (five_of b) ≡ same_socket b a
same_turned a b = rw (number_turned a.from_ip b.from_ip, number_turned a.from_port b.from_port, number_turned a.to_ip b.to_ip, number_turned a.to_port b.to_port, number_turned a.turn b.turn) refl

-- one name more before those
pub found_more : (place : ℕ) (x : SocketId) (names : List SocketId) (k : SocketId) (had : Option ℕ) → had ≡ found_from (suc place) names k →
    cond (same_five (five_of x) (five_of k)) (Some place) had ≡ found_from place (x ∷ names) k
found_more place x names k had h = ap (λ b. cond b (Some place) had) (same_turned x k) ∙ at (same_socket k x) refl
  where
    later : (b : Bool) → (if b then Some (suc place + place_in names k) else None) ≡ (if b then Some (place + suc (place_in names k)) else None)
    later true = ap Some (let e : suc place + place_in names k ≡ place + suc (place_in names k) = omega arith in e)
    later false = refl

    at : (b : Bool) → same_socket k x ≡ b → cond b (Some place) had ≡ found_from place (x ∷ names) k
    at true e = rw e (ap Some (let z : place ≡ place + 0 = omega arith in z))
    at false e = rw e (h ∙ later (is_among k names))

-- a name that is none of these has the place behind all of them
pub past : (names : List SocketId) (k : SocketId) → is_among k names ≡ false → length names ≡ place_in names k
past [] k e = refl
past (x ∷ xs) k e = past_at (same_socket k x) (is_among k xs) (length xs) (place_in xs k) e (past xs k)

pub found_or : (names : List SocketId) (k : SocketId) → unwrap_or (found_from 0 names k) (length names) ≡ place_in names k
found_or names k = at (is_among k names) refl
  where
    at : (b : Bool) → is_among k names ≡ b → unwrap_or (found_from 0 names k) (length names) ≡ place_in names k
    at true e = rw e (let z : 0 + place_in names k ≡ place_in names k = omega arith in z)
    at false e = rw e (past names k e)

pub found_some : (names : List SocketId) (k : SocketId) → is_some (found_from 0 names k) ≡ is_among k names
found_some names k = at (is_among k names)
  where
    at : (b : Bool) → is_some (if b then Some (0 + place_in names k) else None) ≡ b
    at true = refl
    at false = refl

-- ---- along the loop

drop_past : (n : ℕ) (xs : List SocketId) → length xs ≤ n → drop n xs ≡ []
drop_past zero [] h = refl
drop_past zero (x ∷ xs) h = absurd (omega (arith, h))
drop_past (suc n) [] h = refl
drop_past (suc n) (x ∷ xs) h = drop_past n xs (omega (arith, h))

drop_first : (xs : List SocketId) (n : ℕ) (d : SocketId) → n < length xs → drop n xs ≡ slice_index_or xs n d ∷ drop (suc n) xs
drop_first [] n d h = absurd (omega (arith, h))
drop_first (y ∷ ys) zero d h = refl
drop_first (y ∷ ys) (suc n) d h = drop_first ys n d (omega (arith, h))

-- the names from a place on
abbrev pub ArePlacedFrom : ℕ → List (Five × ℕ) → List SocketId → Type 0
ArePlacedFrom from places names = (k : SocketId) → lookup (same_five (five_of k)) places ≡ found_from from (drop from names) k

pub none_placed : (names : List SocketId) (places : List (Five × ℕ)) (from : ℕ) → places ≡ [] → from ≡ length names → ArePlacedFrom from places names
none_placed names places from none e k =
    let back : drop from names ≡ [] = drop_past from names (omega (arith, e)) in
    rw (none, back) refl

pub one_placed : (names : List SocketId) (d : SocketId) (old new : List (Five × ℕ)) (key : Five) (place before after : ℕ) → before ≡ suc place → after ≡ place →
    place < length names → key ≡ five_of (slice_index_or names place d) → ArePlacedFrom before old names →
    ((q : Five) → lookup (same_five q) new ≡ cond (same_five key q) (Some place) (lookup (same_five q) old)) → ArePlacedFrom after new names
one_placed names d old new key place before after b a within named h updates k =
    let x = slice_index_or names place d in
    let front : drop place names ≡ x ∷ drop (suc place) names = drop_first names place d within in
    updates (five_of k)
    ∙ ap (λ (q : Five). cond (same_five q (five_of k)) (Some place) (lookup (same_five (five_of k)) old)) named
    ∙ found_more place x (drop (suc place) names) k (lookup (same_five (five_of k)) old) (subst (λ n. lookup (same_five (five_of k)) old ≡ found_from n (drop n names) k) b (h k))
    ∙ ap (λ xs. found_from place xs k) (sym front)
    ∙ ap (λ n. found_from n (drop n names) k) (sym a)
