-- The look-up of whether two nodes are joined.
use Rattle.std.specs.Prelude.{◌≡◌, ℕ, ◌+◌, ◌*◌, ◌<◌, Bool, List, length, slice_get, Some}
use Rattle.m2_scenario.specs.declared.link.Link.{Link}
use Rattle.m2_scenario.specs.declared.limits.TheConstants.{MOST_NODES, MOST_PAIRS}
use Rattle.m2_scenario.specs.Draft.{are_joined}

-- the cell of a row and a column of a table with a column for each place of a node
abbrev pub cell : ℕ → ℕ → ℕ
cell a b = a * MOST_NODES + b

-- for each two places whether a link joins their nodes
pub record IsLookUp (links : List Link) (joined : List Bool) : Type 0 where
  pub cells : length joined ≡ MOST_PAIRS
  pub tells : (a b : ℕ) → a < MOST_NODES → b < MOST_NODES → slice_get joined (cell a b) ≡ Some (are_joined links a b)
