-- How many lines of each sort there are at most, in the generator's loop.
use Rattle.std.specs.Prelude.{ℕ, ◌*◌, ◌≤◌}
use Rattle.m2_scenario.specs.declared.counts.Counts.{Counts}
use Rattle.m2_scenario.specs.declared.lines.TheConstants.{POSTS_TO_A_FAULT, POSTS_TO_A_SETTLE}

-- p posts at most, as many faults as follow f posts, and as many rounds as follow r
pub record AreFew (c : Counts) (p f r : ℕ) : Type 0 where
  pub posts : c.posts ≤ p
  pub faults : c.faults * POSTS_TO_A_FAULT ≤ f
  pub rounds : c.rounds * POSTS_TO_A_SETTLE ≤ r
