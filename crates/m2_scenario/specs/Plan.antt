-- The plans of the nodes: what is kept of the lines so far.
use Rattle.std.specs.Prelude.{◌≡◌, ℕ, ◌<◌, Bool, List, length, slice_get, Option, Some, None}
use Rattle.std.specs.List.{list_any}
use Rattle.m2_scenario.specs.declared.counts.Counts.{Counts}
use Rattle.m2_scenario.specs.declared.limits.TheConstants.{MOST_NODES}
use Rattle.m2_scenario.specs.Counts.{counts_of}
use Rattle.m2_scenario.specs.Draft.{DraftLine, is_step_of, post, dial, down}

-- the counts, and for each place whether its node has a step
pub record IsCounted (lines : List DraftLine) (counts : Counts) (planned : List Bool) : Type 0 where
  pub counts_are : counts ≡ counts_of lines
  pub planned_len : length planned ≡ MOST_NODES
  pub planned_are : (a : ℕ) → a < MOST_NODES → slice_get planned a ≡ Some (list_any (is_step_of a) lines)

-- the place of the node of whose plan a line is a step
abbrev pub step_of : DraftLine → Option ℕ
step_of (post a b message) = Some a
step_of (dial a b) = Some a
step_of (down a b) = Some a
step_of _ = None

-- where a line is a step of a node's plan, the node is one of so many
abbrev pub IsAmong : ℕ → DraftLine → Type 0
IsAmong nodes (post a b message) = a < nodes
IsAmong nodes (dial a b) = a < nodes
IsAmong nodes (down a b) = a < nodes
IsAmong nodes _ = Unit {0}
