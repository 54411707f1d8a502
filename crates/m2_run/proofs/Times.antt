-- How often a socket stands in a list: in one whose sockets are each one of its own, once at most.
use Rattle.std.proofs.Common.{◌≡◌, ◌≢◌, ◌≤◌, ℕ, zero, suc, ◌+◌, Bool, ◌||◌, true, false, if◌then◌else◌, List, [], ◌∷◌, ◌++◌, Some, refl, sym, ap, ◌∙◌, arith, sum_by}
use Rattle.std.specs.Prelude.{slice_get}
use Rattle.std.specs.List.{AllByRecursion, IsDistinct, flat_map}
use Rattle.std.proofs.lemmas.List.Sums.{sum_by-cons}
use Rattle.std.proofs.lemmas.Option.{none-some, same_Some}
use Rattle.m2_fabric.proofs.m2_lemmas.Booleans.{false_isnt_true}
use Rattle.m2_fabric.proofs.Sockets.{same_equal, same_refl}
use Rattle.m2_fabric.specs.Sockets.{is_among, same_socket}
use Rattle.m2_fabric.specs.declared.socket.SocketId.{SocketId}

-- one where it is the same
abbrev pub one_if : SocketId → SocketId → ℕ
one_if k x = if same_socket k x then 1 else 0

abbrev pub times : SocketId → List SocketId → ℕ
times k [] = 0
times k (x ∷ xs) = one_if k x + times k xs

pub times_sum : (k : SocketId) (xs : List SocketId) → sum_by (one_if k) xs ≡ times k xs
times_sum k [] = refl
times_sum k (x ∷ xs) = sum_by-cons (one_if k) x xs ∙ ap (λ n. one_if k x + n) (times_sum k xs)

pub times_both : (k : SocketId) (xs ys : List SocketId) → times k (xs ++ ys) ≡ times k xs + times k ys
times_both k [] ys = omega arith
times_both k (x ∷ xs) ys = omega (arith, times_both k xs ys)

-- ---- one of them

pub among_times : (k : SocketId) (xs : List SocketId) → is_among k xs ≡ true → 1 ≤ times k xs
among_times k [] e = absurd (false_isnt_true e)
among_times k (x ∷ xs) e = at (same_socket k x) e (among_times k xs)
  where
    at : (b : Bool) → (b || is_among k xs) ≡ true → (is_among k xs ≡ true → 1 ≤ times k xs) → 1 ≤ (if b then 1 else 0) + times k xs
    at true h rest = omega arith
    at false h rest = omega (arith, rest h)

not_among_times : (k : SocketId) (xs : List SocketId) → is_among k xs ≡ false → times k xs ≡ 0
not_among_times k [] e = refl
not_among_times k (x ∷ xs) e = at (same_socket k x) e (not_among_times k xs)
  where
    at : (b : Bool) → (b || is_among k xs) ≡ false → (is_among k xs ≡ false → times k xs ≡ 0) → (if b then 1 else 0) + times k xs ≡ 0
    at true h rest = absurd (false_isnt_true (sym h))
    at false h rest = omega (arith, rest h)

-- ---- each one of its own

none_times : (x : SocketId) (xs : List SocketId) → AllByRecursion (λ y. same_socket x y ≡ false) xs → times x xs ≡ 0
none_times x [] all = refl
none_times x (y ∷ ys) all = let other : one_if x y ≡ 0 = ap (λ b. if b then 1 else 0) all.0 in omega (arith, other, none_times x ys all.1)

times_none : (x : SocketId) (xs : List SocketId) → times x xs ≡ 0 → AllByRecursion (λ y. same_socket x y ≡ false) xs
times_none x [] e = tt
times_none x (y ∷ ys) e = at (same_socket x y) refl e (times_none x ys)
  where
    at : (b : Bool) → same_socket x y ≡ b → (if b then 1 else 0) + times x ys ≡ 0 → (times x ys ≡ 0 → AllByRecursion (λ z. same_socket x z ≡ false) ys) →
        (same_socket x y ≡ false) × AllByRecursion (λ z. same_socket x z ≡ false) ys
    at true s h rest = absurd (omega (arith, h))
    at false s h rest = (s, rest (omega (arith, h)))

pub distinct_once : (xs : List SocketId) → IsDistinct same_socket xs → (k : SocketId) → times k xs ≤ 1
unfolding IsDistinct
distinct_once [] d k = omega arith
distinct_once (x ∷ xs) d k = at (same_socket k x) refl (distinct_once xs d.1 k)
  where
    at : (b : Bool) → same_socket k x ≡ b → times k xs ≤ 1 → (if b then 1 else 0) + times k xs ≤ 1
    at true s rest = let none : times k xs ≡ 0 = ap (λ z. times z xs) (same_equal k x s) ∙ none_times x xs d.0 in omega (arith, none)
    at false s rest = omega (arith, rest)

pub once_distinct : (xs : List SocketId) → ((k : SocketId) → times k xs ≤ 1) → IsDistinct same_socket xs
unfolding IsDistinct
once_distinct [] few = tt
once_distinct (x ∷ xs) few = (
  times_none x xs (let here : one_if x x ≡ 1 = ap (λ b. if b then 1 else 0) (same_refl x) in omega (arith, here, few x)),
  once_distinct xs (λ k. omega (arith, few k)),
)

-- ---- lists of lists

pub times_of : {X : Type 0} (f : X → List SocketId) (k : SocketId) (xs : List X) (i : ℕ) (x : X) → slice_get xs i ≡ Some x → times k (f x) ≤ times k (flat_map f xs)
times_of f k [] i x e = absurd (none-some x e)
times_of f k (y ∷ ys) zero x e =
    let same : times k (f y) ≡ times k (f x) = ap (λ z. times k (f z)) (same_Some y x e) in
    omega (arith, same, times_both k (f y) (flat_map f ys))
times_of f k (y ∷ ys) (suc i) x e = omega (arith, times_of f k ys i x e, times_both k (f y) (flat_map f ys))

-- those of two places
pub times_of_two : {X : Type 0} (f : X → List SocketId) (k : SocketId) (xs : List X) (i j : ℕ) (x y : X) → i ≢ j → slice_get xs i ≡ Some x → slice_get xs j ≡ Some y →
    times k (f x) + times k (f y) ≤ times k (flat_map f xs)
times_of_two f k [] i j x y other e g = absurd (none-some x e)
times_of_two f k (z ∷ zs) zero zero x y other e g = absurd (other refl)
times_of_two f k (z ∷ zs) zero (suc j) x y other e g =
    let same : times k (f z) ≡ times k (f x) = ap (λ w. times k (f w)) (same_Some z x e) in
    omega (arith, same, times_of f k zs j y g, times_both k (f z) (flat_map f zs))
times_of_two f k (z ∷ zs) (suc i) zero x y other e g =
    let same : times k (f z) ≡ times k (f y) = ap (λ w. times k (f w)) (same_Some z y g) in
    omega (arith, same, times_of f k zs i x e, times_both k (f z) (flat_map f zs))
times_of_two f k (z ∷ zs) (suc i) (suc j) x y other e g =
    omega (arith, times_of_two f k zs i j x y (λ same. other (ap suc same)) e g, times_both k (f z) (flat_map f zs))

-- ---- one more

pub distinct_none : (xs : List SocketId) → xs ≡ [] → IsDistinct same_socket xs
distinct_none xs none = once_distinct xs (λ k. let zero : times k xs ≡ 0 = ap (times k) none in omega (arith, zero))

-- one that is none of these is one more of its own
pub distinct_more : (xs : List SocketId) (x : SocketId) → is_among x xs ≡ false → IsDistinct same_socket xs → IsDistinct same_socket (xs ++ x ∷ [])
distinct_more xs x none d = once_distinct (xs ++ x ∷ []) (λ k. by k (same_socket k x) refl)
  where
    by : (k : SocketId) (b : Bool) → same_socket k x ≡ b → times k (xs ++ x ∷ []) ≤ 1
    by k true s =
        let here : times k xs ≡ 0 = ap (λ z. times z xs) (same_equal k x s) ∙ not_among_times x xs none in
        let one : one_if k x ≡ 1 = ap (λ b. if b then 1 else 0) s in
        omega (arith, times_both k xs (x ∷ []), here, one)
    by k false s =
        let other : one_if k x ≡ 0 = ap (λ b. if b then 1 else 0) s in
        omega (arith, times_both k xs (x ∷ []), other, distinct_once xs d k)
