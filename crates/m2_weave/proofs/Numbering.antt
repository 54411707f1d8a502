-- Counters of different sockets, and of different kinds, have different numbers.
use Rattle.std.proofs.Common.{◌≡◌, ℕ, suc, ◌+◌, ◌*◌, Bool, true, false, List, [], ◌∷◌, refl, sym, ◌∙◌, subst, arith}
use Rattle.std.specs.Prelude.{◌==◌, ◌||◌, if◌then◌else◌}
use Rattle.std.proofs.lemmas.Bool.Decides.{nat_tests}
use Rattle.m2_fabric.specs.declared.socket.SocketId.{SocketId}
use Rattle.m2_fabric.specs.Sockets.{same_socket, is_among}
use Rattle.m2_weave.specs.Strands.{EndOf, StrandNow, end_in, has_opened, same_side}
use Rattle.m2_weave.specs.Counting.{place_in, side_number, writes}
use Rattle.m2_fabric.proofs.Sockets.{same_equal, same_refl}
use Rattle.m2_bytes.proofs.m2_lemmas.Numbers.{zero_if}

place-at : (x a b : SocketId) (m n : ℕ) (p q rest : Bool) → same_socket a x ≡ p → same_socket b x ≡ q → (if p then 0 else suc m) ≡ (if q then 0 else suc n) →
    (q || rest) ≡ true → (rest ≡ true → m ≡ n → a ≡ b) → a ≡ b
place-at x a b m n true true rest p q e among on = same_equal a x p ∙ sym (same_equal b x q)
place-at x a b m n true false rest p q e among on = absurd (omega (arith, e))
place-at x a b m n false true rest p q e among on = absurd (omega (arith, e))
place-at x a b m n false false rest p q e among on = on among (omega (arith, e))

-- a name has its place for itself
pub place_is_own : (names : List SocketId) (a b : SocketId) → is_among b names ≡ true → place_in names a ≡ place_in names b → a ≡ b
place_is_own [] a b among e = absurd (cc)
place_is_own (x ∷ names) a b among e =
    place-at x a b (place_in names a) (place_in names b) (same_socket a x) (same_socket b x) (is_among b names) refl refl e among
    (place_is_own names a b)

differs : (a b : SocketId) → same_socket b a ≡ false → a ≡ b → ⊥
differs a b d e = let s : same_socket b a ≡ true = subst (λ x. same_socket b x ≡ true) (sym e) (same_refl b) in cc

-- ---- one kind of counter

sides : (m count : ℕ) (a b : Bool) → (if 4 * m + side_number a == 4 * m + side_number b then count else 0) ≡ (if same_side a b then count else 0)
sides m count true true = grind (arith, nat_tests)
sides m count true false = grind (arith, nat_tests)
sides m count false true = grind (arith, nat_tests)
sides m count false false = grind (arith, nat_tests)

apart : (m n count : ℕ) (a b : Bool) → (m ≡ n → ⊥) → (if 4 * m + side_number a == 4 * n + side_number b then count else 0) ≡ 0
apart m n count true true h = grind (arith, nat_tests, h)
apart m n count true false h = grind (arith, nat_tests, h)
apart m n count false true h = grind (arith, nat_tests, h)
apart m n count false false h = grind (arith, nat_tests, h)

wrote-at : (names : List SocketId) (s : StrandNow) (e : EndOf) (k : SocketId) (count : ℕ) (b : Bool) → is_among e.socket names ≡ true → same_socket e.socket k ≡ b →
    (if writes names (end_in s k) == writes names e then count else 0)
    ≡ (if same_side (has_opened s e.socket) e.opener then (if b then count else 0) else 0)
wrote-at names s e k count true among is =
    subst (λ x. (if writes names (end_in s x) == writes names e then count else 0) ≡ (if same_side (has_opened s e.socket) e.opener then count else 0))
    (same_equal e.socket k is) (sides (place_in names e.socket) count (has_opened s e.socket) e.opener)
wrote-at names s e k count false among is =
    apart (place_in names k) (place_in names e.socket) count (has_opened s k) e.opener
    (λ same. differs k e.socket is (place_is_own names k e.socket among same))
    ∙ sym (zero_if (same_side (has_opened s e.socket) e.opener))

-- what is written is added at its end's counter
pub wrote_adds : (names : List SocketId) (s : StrandNow) (e : EndOf) (k : SocketId) (count : ℕ) → is_among e.socket names ≡ true →
    (if writes names (end_in s k) == writes names e then count else 0)
    ≡ (if same_side (has_opened s e.socket) e.opener then (if same_socket e.socket k then count else 0) else 0)
wrote_adds names s e k count among = wrote-at names s e k count (same_socket e.socket k) among refl

own-number : (m c count : ℕ) → (if 4 * m + c == 4 * m + c then count else 0) ≡ count
own-number m c count = grind (arith, nat_tests)

other-number : (m n c count : ℕ) → (m ≡ n → ⊥) → (if 4 * m + c == 4 * n + c then count else 0) ≡ 0
other-number m n c count h = grind (arith, nat_tests, h)

counts-at : (names : List SocketId) (a k : SocketId) (c count : ℕ) (b : Bool) → is_among k names ≡ true → same_socket k a ≡ b →
    (if 4 * place_in names a + c == 4 * place_in names k + c then count else 0) ≡ (if b then count else 0)
counts-at names a k c count true among is =
    subst (λ x. (if 4 * place_in names x + c == 4 * place_in names k + c then count else 0) ≡ count) (same_equal k a is) (own-number (place_in names k) c count)
counts-at names a k c count false among is =
    other-number (place_in names a) (place_in names k) c count (λ same. differs a k is (place_is_own names a k among same))

-- so is what is handed on and what is judged
pub counts_add : (names : List SocketId) (a k : SocketId) (c count : ℕ) → is_among k names ≡ true →
    (if 4 * place_in names a + c == 4 * place_in names k + c then count else 0) ≡ (if same_socket k a then count else 0)
counts_add names a k c count among = counts-at names a k c count (same_socket k a) among refl

-- ---- different kinds

pub side_hand : (m n count : ℕ) (b : Bool) → (if 4 * m + side_number b == 4 * n + 2 then count else 0) ≡ 0
side_hand m n count true = grind (arith, nat_tests)
side_hand m n count false = grind (arith, nat_tests)

pub side_judge : (m n count : ℕ) (b : Bool) → (if 4 * m + side_number b == 4 * n + 3 then count else 0) ≡ 0
side_judge m n count true = grind (arith, nat_tests)
side_judge m n count false = grind (arith, nat_tests)

pub hand_side : (m n count : ℕ) (b : Bool) → (if 4 * m + 2 == 4 * n + side_number b then count else 0) ≡ 0
hand_side m n count true = grind (arith, nat_tests)
hand_side m n count false = grind (arith, nat_tests)

pub judge_side : (m n count : ℕ) (b : Bool) → (if 4 * m + 3 == 4 * n + side_number b then count else 0) ≡ 0
judge_side m n count true = grind (arith, nat_tests)
judge_side m n count false = grind (arith, nat_tests)

pub hand_judge : (m n count : ℕ) → (if 4 * m + 2 == 4 * n + 3 then count else 0) ≡ 0
hand_judge m n count = grind (arith, nat_tests)

pub judge_hand : (m n count : ℕ) → (if 4 * m + 3 == 4 * n + 2 then count else 0) ≡ 0
judge_hand m n count = grind (arith, nat_tests)
