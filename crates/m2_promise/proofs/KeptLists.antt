-- Items of lists by their places.
use Rattle.std.proofs.Common.{◌≡◌, ℕ, zero, suc, ◌<◌, List, [], ◌∷◌, length, slice_get, slice_set, Option, Some, refl, sym, subst, arith}
use Rattle.std.specs.List.{AllByRecursion}

-- ---- what is at a place

pub record IsThere {X : Type 0} (xs : List X) (i : ℕ) : Type 0 where
  pub item : X
  pub there : slice_get xs i ≡ Some item

pub within : {X : Type 0} (xs : List X) (i : ℕ) → i < length xs → IsThere xs i
within [] i few = absurd (omega (arith, few))
within (x ∷ xs) zero few = record { item = x; there = refl }
within (x ∷ xs) (suc i) few = let more = within xs i (omega (arith, few)) in record { item = more.item; there = more.there }

-- in a list as long as another there is one where the other has one
pub there_too : {X Y : Type 0} (xs : List X) (ys : List Y) (i : ℕ) (y : Y) → length xs ≡ length ys → slice_get ys i ≡ Some y → IsThere xs i
there_too xs [] i y same is = absurd cc
there_too [] (z ∷ ys) i y same is = absurd (omega (arith, same))
there_too (x ∷ xs) (z ∷ ys) zero y same is = record { item = x; there = refl }
there_too (x ∷ xs) (z ∷ ys) (suc i) y same is = let more = there_too xs ys i y (omega (arith, same)) is in record { item = more.item; there = more.there }

-- ---- where one of a list is set

-- of the one that is set
pub set_at : {X : Type 0} (P : X → Type 0) (xs : List X) (i : ℕ) (x y : X) → slice_get xs i ≡ Some x → AllByRecursion P (slice_set xs i y) → P y
set_at P [] i x y was all = absurd cc
set_at P (z ∷ zs) zero x y was all = all.0
set_at P (z ∷ zs) (suc i) x y was all = set_at P zs i x y was all.1

-- what holds of what was there and of what is there now, of the one and of all others
pub of_set : {X : Type 0} (P : Option X → Option X → Type 0) (xs : List X) (i : ℕ) (x y : X) → slice_get xs i ≡ Some x → P (Some x) (Some y) → ((o : Option X) → P o o) →
    (k : ℕ) → P (slice_get xs k) (slice_get (slice_set xs i y) k)
of_set P [] i x y was this others k = absurd cc
of_set P (z ∷ zs) zero x y was this others zero = subst (λ o. P o (Some y)) (sym was) this
of_set P (z ∷ zs) zero x y was this others (suc k) = others (slice_get zs k)
of_set P (z ∷ zs) (suc i) x y was this others zero = others (Some z)
of_set P (z ∷ zs) (suc i) x y was this others (suc k) = of_set P zs i x y was this others k
