-- Counts of the sockets of four numbers, and that the next socket stands nowhere before.
use Rattle.std.proofs.Common.{◌≡◌, ℕ, ◌+◌, ◌≤◌, Bool, true, false, cond, if◌then◌else◌, List, [], ◌∷◌, ◌++◌, Some, Option, refl, sym, ◌∙◌, ap, arith, ◌==◌, ◌&&◌, ◌||◌}
use Rattle.std.proofs.lemmas.Bool.{eq-eqb, eqb-true}
use Rattle.std.specs.Option.{unwrap_or}
use Rattle.std.specs.Map.{lookup}
use Rattle.m2_fabric.specs.Sockets.{is_among, same_socket}
use Rattle.m2_fabric.specs.declared.socket.SocketId.{SocketId}
use Rattle.m2_ports.specs.Made.{AreCounted, AreWithin, Four, count_of, four_of, next_socket, same_four}
use Rattle.m2_bytes.proofs.m2_lemmas.Booleans.{both_of_and}
use Rattle.m2_fabric.proofs.Sockets.{same_equal}

-- ---- equal names

same_number : (n : ℕ) → (n == n) ≡ true
same_number n = eq-eqb n n refl

four_refl : (a : Four) → same_four a a ≡ true
four_refl a = rw (same_number a.0, same_number a.1, same_number a.2, same_number a.3) refl

four_equal : (a b : Four) → same_four a b ≡ true → a ≡ b
four_equal a b h =
    let three = both_of_and (((a.0 == b.0) && (a.1 == b.1)) && (a.2 == b.2)) (a.3 == b.3) h in
    let two = both_of_and ((a.0 == b.0) && (a.1 == b.1)) (a.2 == b.2) three.0 in
    let one = both_of_and (a.0 == b.0) (a.1 == b.1) two.0 in
    ap (λ (n : ℕ). (n, a.1, a.2, a.3)) (eqb-true a.0 b.0 one.0)
    ∙ ap (λ (n : ℕ). (b.0, n, a.2, a.3)) (eqb-true a.1 b.1 one.1)
    ∙ ap (λ (n : ℕ). (b.0, b.1, n, a.3)) (eqb-true a.2 b.2 two.1)
    ∙ ap (λ (n : ℕ). (b.0, b.1, b.2, n)) (eqb-true a.3 b.3 three.1)

four_apart : (a b : Four) → same_four a b ≡ false → same_four b a ≡ false
four_apart a b h = by_other (same_four b a) refl
  where
    by_other : (o : Bool) → same_four b a ≡ o → o ≡ false
    by_other false e = refl
    by_other true e =
        let same : a ≡ b = sym (four_equal b a e) in
        let yes_same : same_four a b ≡ true = rw same (four_refl b) in
        absurd (cc)

-- ---- counts

count-append : (four : Four) (xs ys : List SocketId) → count_of four (xs ++ ys) ≡ count_of four xs + count_of four ys
count-append four [] ys = omega arith
count-append four (x ∷ xs) ys = omega (arith, count-append four xs ys)

within_more : (all more xs : List SocketId) → AreWithin all xs → AreWithin (all ++ more) xs
within_more all more [] w = tt
within_more all more (x ∷ xs) w = (omega (arith, w.0, count-append (four_of x) all more), within_more all more xs w.1)

within_last : (all xs : List SocketId) (id : SocketId) → AreWithin all xs → id.turn ≤ count_of (four_of id) all → AreWithin all (xs ++ id ∷ [])
within_last all [] id w h = (h, tt)
within_last all (x ∷ xs) id w h = (w.0, within_last all xs id w.1 h)

-- a socket of a greater turn than the count of its four numbers stands nowhere
pub new_among : (all xs : List SocketId) (id : SocketId) → AreWithin all xs → id.turn ≡ count_of (four_of id) all + 1 → is_among id xs ≡ false
new_among all [] id w h = refl
new_among all (x ∷ xs) id w h = by_first (same_socket id x) refl (new_among all xs id w.1 h)
  where
    by_first : (b : Bool) → same_socket id x ≡ b → is_among id xs ≡ false → (b || is_among id xs) ≡ false
    by_first false e rest = rest
    by_first true e rest =
        let same : x ≡ id = sym (same_equal id x e) in
        let low : id.turn ≤ count_of (four_of id) all = rw (← same) w.0 in
        absurd (omega (arith, low, h))

-- ---- the next socket is made

counted_next : (made : List SocketId) (four q : Four) (turn : ℕ) (had : Option ℕ) (b : Bool) → same_four four q ≡ b → turn ≡ count_of four made + 1
    → unwrap_or had 0 ≡ count_of q made
    → unwrap_or (cond b (Some turn) had) 0 ≡ count_of q made + ((if same_four q four then 1 else 0) + 0)
counted_next made four q turn had true e h c =
    let same : four ≡ q = four_equal four q e in
    rw (← same, four_refl four) (omega (arith, h))
counted_next made four q turn had false e h c = rw (four_apart four q e) (omega (arith, c))

pub made_stays : (made : List SocketId) (four : Four) (id : SocketId) (old new : List (Four × ℕ)) → AreCounted made old → id ≡ next_socket four made
    → ((q : Four) → lookup (same_four q) new ≡ cond (same_four four q) (Some id.turn) (lookup (same_four q) old))
    → AreCounted (made ++ id ∷ []) new
made_stays made four id old new c next updates = record {
  counted = λ q.
      ap (λ o. unwrap_or o 0) (updates q)
      ∙ counted_next made four q id.turn (lookup (same_four q) old) (same_four four q) refl turn (c.counted q)
      ∙ rw next (sym (count-append q made (next_socket four made ∷ [])));
  within = within_last (made ++ id ∷ []) made id (within_more made (id ∷ []) made c.within) reaches;
}
  where
    turn : id.turn ≡ count_of four made + 1
    turn = ap (λ (s : SocketId). s.turn) next

    own : four_of id ≡ four
    own = ap four_of next

    reaches : id.turn ≤ count_of (four_of id) (made ++ id ∷ [])
    reaches =
        let one : count_of (four_of id) (id ∷ []) ≡ 1 = rw (four_refl (four_of id)) refl in
        let before : id.turn ≡ count_of (four_of id) made + 1 = turn ∙ ap (λ (f : Four). count_of f made + 1) (sym own) in
        omega (arith, before, one, count-append (four_of id) made (id ∷ []))

pub made_is_new : (made : List SocketId) (four : Four) (id : SocketId) → AreWithin made made → id ≡ next_socket four made → is_among id made ≡ false
made_is_new made four id w next = new_among made made id w (rw next refl)

pub counted_again : (made : List SocketId) (old new : List (Four × ℕ)) → AreCounted made old → ((q : Four) → lookup (same_four q) new ≡ lookup (same_four q) old)
    → AreCounted made new
counted_again made old new c same = record { counted = λ q. ap (λ o. unwrap_or o 0) (same q) ∙ c.counted q; within = c.within }
