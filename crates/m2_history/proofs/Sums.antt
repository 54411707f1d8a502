-- A total over strands is that of the one strand that adds to it, or of the two.
use Rattle.std.proofs.Common.{◌≡◌, ℕ, zero, suc, ◌+◌, List, [], ◌∷◌, take, drop, refl, sym, arith}
use Rattle.std.specs.Prelude.{if◌then◌else◌, slice_index, slice_index_or}
use Rattle.std.specs.List.{AllByRecursion}
use Rattle.m2_fabric.specs.declared.socket.SocketId.{SocketId}
use Rattle.m2_weave.specs.Order.{Cut}
use Rattle.m2_weave.specs.declared.strand.StrandItem.{StrandItem}
use Rattle.m2_weave.specs.Strands.{StrandNow, read_by, read_by_halves, total, total_at}
use Rattle.m2_weave.specs.Rule.{nothing_at_all}

abbrev pub strand_in : List StrandNow → ℕ → StrandNow
strand_in ss j = slice_index_or ss j nothing_at_all

-- what has come of one strand adds
abbrev pub part_at : (StrandNow → StrandItem → ℕ) → List StrandNow → Cut → ℕ → ℕ
part_at f ss at j = total (f (strand_in ss j)) (take (slice_index at j) (strand_in ss j).items)

pub nothing_taken : (f : StrandItem → ℕ) (n : ℕ) → total f (take n (let none : List StrandItem = [] in none)) ≡ 0
nothing_taken f zero = refl
nothing_taken f (suc n) = refl

pub none_adds : (f : StrandNow → StrandItem → ℕ) (ss : List StrandNow) (at : Cut) → ((j : ℕ) → part_at f ss at j ≡ 0) → total_at f ss at ≡ 0
none_adds f [] at h = refl
none_adds f (s ∷ ss) [] h = refl
none_adds f (s ∷ ss) (n ∷ at) h = omega (arith, h 0, none_adds f ss at (λ j. h (suc j)))

pub one_adds : (f : StrandNow → StrandItem → ℕ) (ss : List StrandNow) (at : Cut) (j : ℕ) → ((i : ℕ) → (i ≡ j → ⊥) → part_at f ss at i ≡ 0) → total_at f ss at ≡ part_at f ss at j
one_adds f [] at j h = sym (nothing_taken (f nothing_at_all) (slice_index at j))
one_adds f (s ∷ ss) [] j h = refl
one_adds f (s ∷ ss) (n ∷ at) zero h = omega (arith, none_adds f ss at (λ i. h (suc i) (λ e. omega (arith, e))))
one_adds f (s ∷ ss) (n ∷ at) (suc j) h =
    omega (arith, h 0 (λ e. omega (arith, e)), one_adds f ss at j (λ i d. h (suc i) (λ e. d (omega (arith, e)))))

pub two_add : (f : StrandNow → StrandItem → ℕ) (ss : List StrandNow) (at : Cut) (j k : ℕ) → (j ≡ k → ⊥) →
    ((i : ℕ) → (i ≡ j → ⊥) → (i ≡ k → ⊥) → part_at f ss at i ≡ 0) → total_at f ss at ≡ part_at f ss at j + part_at f ss at k
two_add f [] at j k apart h = omega (arith, nothing_taken (f nothing_at_all) (slice_index at j), nothing_taken (f nothing_at_all) (slice_index at k))
two_add f (s ∷ ss) [] j k apart h = refl
two_add f (s ∷ ss) (n ∷ at) zero zero apart h = absurd (apart refl)
two_add f (s ∷ ss) (n ∷ at) zero (suc k) apart h =
    omega (arith, one_adds f ss at k (λ i d. h (suc i) (λ e. omega (arith, e)) (λ e. d (omega (arith, e)))))
two_add f (s ∷ ss) (n ∷ at) (suc j) zero apart h =
    omega (arith, one_adds f ss at j (λ i d. h (suc i) (λ e. d (omega (arith, e))) (λ e. omega (arith, e))))
two_add f (s ∷ ss) (n ∷ at) (suc j) (suc k) apart h =
    omega (
      arith,
      h 0 (λ e. omega (arith, e)) (λ e. omega (arith, e)),
      two_add f ss at j k (λ e. apart (omega (arith, e))) (λ i d c. h (suc i) (λ e. d (omega (arith, e))) (λ e. c (omega (arith, e)))),
    )

-- ---- what halves have read in all

abbrev pub half_read : SocketId → StrandNow → ℕ
half_read k s = if s.of_half then total (read_by k) s.items else 0

pub none_read : (ss : List StrandNow) (k : SocketId) → ((j : ℕ) → half_read k (strand_in ss j) ≡ 0) → read_by_halves ss k ≡ 0
none_read [] k h = refl
none_read (s ∷ ss) k h = omega (arith, h 0, none_read ss k (λ j. h (suc j)))

pub one_reads : (ss : List StrandNow) (k : SocketId) (j : ℕ) → ((i : ℕ) → (i ≡ j → ⊥) → half_read k (strand_in ss i) ≡ 0) → read_by_halves ss k ≡ half_read k (strand_in ss j)
one_reads [] k j h = refl
one_reads (s ∷ ss) k zero h = omega (arith, none_read ss k (λ i. h (suc i) (λ e. omega (arith, e))))
one_reads (s ∷ ss) k (suc j) h = omega (arith, h 0 (λ e. omega (arith, e)), one_reads ss k j (λ i d. h (suc i) (λ e. d (omega (arith, e)))))

-- ---- items that add nothing

pub all_zero : (f : StrandItem → ℕ) (n : ℕ) (is : List StrandItem) → AllByRecursion (λ i. f i ≡ 0) is → total f (take n is) ≡ 0
all_zero f zero is h = refl
all_zero f (suc n) [] h = refl
all_zero f (suc n) (i ∷ is) h = omega (arith, h.0, all_zero f n is h.1)

pub whole_zero : (f : StrandItem → ℕ) (is : List StrandItem) → AllByRecursion (λ i. f i ≡ 0) is → total f is ≡ 0
whole_zero f [] h = refl
whole_zero f (i ∷ is) h = omega (arith, h.0, whole_zero f is h.1)

pub all_each : {X : Type 0} (P : X → Type 0) (xs : List X) → ((x : X) → P x) → AllByRecursion P xs
all_each P [] f = tt
all_each P (x ∷ xs) f = (f x, all_each P xs f)

pub total_more : (f : StrandItem → ℕ) (m n : ℕ) (is : List StrandItem) → total f (take m is) ≡ total f (take n (take m is)) + total f (drop n (take m is))
total_more f m n is = at n (take m is)
  where
    at : (n : ℕ) (xs : List StrandItem) → total f xs ≡ total f (take n xs) + total f (drop n xs)
    at zero xs = omega arith
    at (suc n) [] = refl
    at (suc n) (x ∷ xs) = omega (arith, at n xs)
