-- What several putters put, as one list: nothing lost, nothing doubled, each putter's items in order.
use Rattle.std.specs.Prelude.{◌≡◌, ◌⊎◌, ℕ, List, [], ◌∷◌, ◌++◌, All, sum_by}

-- the first list is the second with some of its items left out
abbrev pub IsSublist : {T : Type 0} → List T → List T → Type 0
IsSublist xs [] = xs ≡ []
IsSublist {T} xs (y ∷ ys) = IsSublist xs ys ⊎ ((rest : List T) × (xs ≡ y ∷ rest) × IsSublist rest ys)

-- However items are weighed, the whole weighs what the lists weigh together: none is lost and none doubled. And each
-- list stands in the whole, in its order.
pub record IsMerge (T : Type 0) (lists : List (List T)) (whole : List T) : Type 0 where
  pub weighs : (weight : T → ℕ) → sum_by (sum_by weight) lists ≡ sum_by weight whole
  pub in_order : All (λ list. IsSublist list whole) lists

-- what was taken is a prefix of a merge of the lists: with what is held it is all of them
abbrev pub IsMergePrefix : {T : Type 0} → List (List T) → List T → Type 0
IsMergePrefix {T} lists taken = (held : List T) × IsMerge T lists (taken ++ held)
