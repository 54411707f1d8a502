-- Strands merged into one order: of each strand the entries come one after the other, and a rule says when the next one may
-- come, by how many of each strand have come. Strands are told by their places, from 0.
use Rattle.std.specs.Prelude.{◌≡◌, ℕ, ◌+◌, ◌<◌, ◌≤◌, Bool, true, List, [], ◌∷◌, length, map, slice_index, slice_set}

-- ---- how far strands have come

-- how many entries of each strand have come
abbrev pub Cut : Type 0
Cut = List ℕ

-- of none of them any
abbrev pub nothing : (all : Cut) → Cut
nothing all = map (λ n. 0) all

-- one more of a strand
abbrev pub come : ℕ → Cut → Cut
come k at = slice_set at k (slice_index at k + 1)

-- one more of each of these, one after the other
abbrev pub come_all : List ℕ → Cut → Cut
come_all [] at = at
come_all (k ∷ ks) at = come_all ks (come k at)

-- of no strand more has come in the first than in the second
pub record AtMost (a b : Cut) : Type 0 where
  pub count : length a ≡ length b
  pub each : (k : ℕ) → slice_index a k ≤ slice_index b k

-- ---- when the next entry of a strand may come

-- at a cut, of a strand
abbrev pub Rule : Type 0
Rule = Cut → ℕ → Bool

-- What is met stays met while other strands go on.
abbrev pub StaysMet : Rule → Type 0
StaysMet rule = (a b : Cut) (k : ℕ) → AtMost a b → slice_index a k ≡ slice_index b k → rule a k ≡ true → rule b k ≡ true

-- there is a next entry, of so many in all, and the rule lets it come
pub record MayCome (rule : Rule) (all at : Cut) (k : ℕ) : Type 0 where
  pub more : slice_index at k < slice_index all k
  pub met : rule at k ≡ true

abbrev pub IsStuck : Rule → (all at : Cut) → Type 0
IsStuck rule all at = (k : ℕ) → MayCome rule all at k → ⊥

-- ---- orders

-- An order names the strand of each entry. Each of these may come when it does.
abbrev pub AreLawful : Rule → (all at : Cut) → List ℕ → Type 0
AreLawful rule all at [] = Unit {0}
AreLawful rule all at (k ∷ ks) = MayCome rule all at k × AreLawful rule all (come k at) ks

-- the cut to which an order leads
abbrev pub reached : (all : Cut) → List ℕ → Cut
reached all order = come_all order (nothing all)

-- an order of all entries
pub record IsOrder (rule : Rule) (all : Cut) (order : List ℕ) : Type 0 where
  pub lawful : AreLawful rule all (nothing all) order
  pub whole : reached all order ≡ all

-- ---- greedy orders

-- it may come, and no strand of a lower rank has an entry that may
pub record IsNext (rank : ℕ → ℕ) (rule : Rule) (all at : Cut) (k : ℕ) : Type 0 where
  pub may : MayCome rule all at k
  pub first : (j : ℕ) → rank j < rank k → MayCome rule all at j → ⊥

abbrev pub AreNext : (rank : ℕ → ℕ) → Rule → (all at : Cut) → List ℕ → Type 0
AreNext rank rule all at [] = Unit {0}
AreNext rank rule all at (k ∷ ks) = IsNext rank rule all at k × AreNext rank rule all (come k at) ks

-- Whatever may come is taken, those of the lowest rank first, until nothing may.
pub record IsGreedy (rank : ℕ → ℕ) (rule : Rule) (all : Cut) (order : List ℕ) : Type 0 where
  pub each : AreNext rank rule all (nothing all) order
  pub stuck : IsStuck rule all (reached all order)
