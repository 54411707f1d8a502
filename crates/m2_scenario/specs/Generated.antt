-- The scenario that a number of posts and a seed make.
use Rattle.std.specs.Prelude.{ℕ, ◌+◌, ◌-◌, ◌*◌, ◌/◌, ◌%◌, ◌==◌, ◌&&◌, nat_lt, Bool, if◌then◌else◌, List, [], ◌∷◌, ◌++◌, zero, suc, None}
use Rattle.m2_scenario.specs.declared.limits.TheConstants.{MOST_FAULTS}
use Rattle.m2_scenario.specs.Draft.{Draft, DraftLine, fault, settle}
use Rattle.m2_scenario.specs.declared.lines.TheConstants.{POSTS_TO_A_FAULT, POSTS_TO_A_SETTLE, LAST_ROUNDS}
use Rattle.m2_scenario.specs.Draws.{draw}
use Rattle.m2_scenario.specs.Choices.{from_by, to_by, post_by}
use Rattle.m2_scenario.specs.Cluster.{osds, all_pairs}

-- The 16th post is followed by a fault, and so is each 16th from there, as long as fewer faults were made than a
-- scenario may have. Before the i-th post (from 0) i / 16 places for one have passed.
abbrev pub is_faulted : ℕ → Bool
is_faulted i = (i % POSTS_TO_A_FAULT == POSTS_TO_A_FAULT - 1) && nat_lt (i / POSTS_TO_A_FAULT) MOST_FAULTS

-- at the newest socket between the two nodes of the post
abbrev pub fault_after : ℕ → ℕ → ℕ → List DraftLine
fault_after i a b = if is_faulted i then fault a b 0 ∷ [] else []

-- each 8th post is followed by a round
abbrev pub settle_by : ℕ → List DraftLine
settle_by i = if i % POSTS_TO_A_SETTLE == POSTS_TO_A_SETTLE - 1 then settle 1 ∷ [] else []

-- the i-th post with what follows it, by draws
abbrev pub lines_by : ℕ → (ℕ → ℕ) → List DraftLine
lines_by i v = post_by i v ∷ fault_after i (from_by (v 0)) (to_by (v 0) (v 1)) ++ settle_by i

abbrev pub with_lines : Draft → List DraftLine → Draft
with_lines d lines = record d { lines = d.lines ++ lines }

-- the draws of the i-th post
abbrev pub draws_of : ℕ → ℕ → ℕ → ℕ
draws_of seed i k = draw seed (5 * i + k)

-- the first n posts with what follows each
abbrev pub first_lines : ℕ → ℕ → List DraftLine
first_lines seed zero = []
first_lines seed (suc i) = first_lines seed i ++ lines_by i (draws_of seed i)

-- n posts between four osds with what follows each, and rounds at the end
abbrev pub generated : ℕ → ℕ → Draft
generated n seed = record {
  nodes = osds;
  links = all_pairs;
  lines = first_lines seed n ++ settle LAST_ROUNDS ∷ [];
  limit = None;
}
