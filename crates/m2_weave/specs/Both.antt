-- What comes of two strands in an order of more.
use Rattle.std.specs.Prelude.{◌≡◌, ℕ, ◌+◌, ◌==◌, ◌⊎◌, Bool, if◌then◌else◌, List, [], ◌∷◌, ◌++◌, take, drop, map}
use Rattle.std.proofs.Common.{inl, inr}

abbrev pub once : Bool → ℕ
once b = if b then 1 else 0

-- how many entries of a strand an order names
abbrev pub times : ℕ → List ℕ → ℕ
times k [] = 0
times k (j ∷ order) = once (j == k) + times k order

-- the entries of two strands in the order in which they come
abbrev pub of_both : {A B : Type 0} → (one other : ℕ) → List A → List B → List ℕ → List (A ⊎ B)
of_both one other xs ys [] = []
of_both one other xs ys (k ∷ order) =
    if k == one then map inl (take 1 xs) ++ of_both one other (drop 1 xs) ys order
    else if k == other then map inr (take 1 ys) ++ of_both one other xs (drop 1 ys) order
    else of_both one other xs ys order

-- those of either strand
abbrev pub of_one : {A B : Type 0} → List (A ⊎ B) → List A
of_one [] = []
of_one (inl x ∷ zs) = x ∷ of_one zs
of_one (inr y ∷ zs) = of_one zs

abbrev pub of_other : {A B : Type 0} → List (A ⊎ B) → List B
of_other [] = []
of_other (inl x ∷ zs) = of_other zs
of_other (inr y ∷ zs) = y ∷ of_other zs

-- Of each strand come its first entries in their order, as many as the order names.
pub record ComeInOrder (A B : Type 0) : Type 0 where
  pub one : (k other : ℕ) (xs : List A) (ys : List B) (order : List ℕ) → of_one (of_both k other xs ys order) ≡ take (times k order) xs
  pub other : (one k : ℕ) (xs : List A) (ys : List B) (order : List ℕ) → (one ≡ k → ⊥) → of_other (of_both one k xs ys order) ≡ take (times k order) ys
