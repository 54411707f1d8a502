-- A throttle, its passes and its grants as contracts see them, and when a throttle is full. The rule is that of Ceph's
-- Throttle: a request that fits under the bound waits until it does, and one that is greater than the bound waits until
-- no more than the bound is out.
use Rattle.std.specs.Prelude.{ℕ, List, [], ◌++◌, Option, Some, None, zero, suc, ◌+◌, ◌<◌, ◌≤◌, ◌⊎◌, if◌then◌else◌}
use Rattle.std.specs.Option.{is_none}
use Rattle.m2_shared.specs.declared.limits.TheConstants.{NO_BOUND}
use Rattle.m2_shared.specs.declared.held.Change.{Change}
use Rattle.m2_shared.specs.Place.{Place}

-- where the word lies, and the bound
pub record SeenThrottle : Type 0 where
  pub place : Place
  pub most : ℕ

-- where the throttle's word lies; the word itself, where that is nowhere else; and what the pass did to a word that
-- threads share, in order: each step with the word as it was and as it became
pub record SeenTakePass : Type 0 where
  pub place : Place
  pub word : ℕ
  pub changes : List Change

-- how many bytes are out of a throttle that is alone; none of one that threads share
abbrev pub out_alone : SeenTakePass → Option ℕ
out_alone pass = if is_none pass.place then Some pass.word else None

-- a pass by which nothing was taken
abbrev pub unused_pass : Place → SeenTakePass
unused_pass place = record { place = place; word = 0; changes = [] }

-- what two passes did, by one of them
abbrev pub joined : SeenTakePass → SeenTakePass → SeenTakePass
joined pass other = record pass { changes = pass.changes ++ other.changes }

-- where the throttle's word lies, and how many bytes are granted
pub record SeenGrant : Type 0 where
  pub place : Place
  pub n : ℕ

-- the bound that a number means
abbrev pub bound_of : ℕ → ℕ
bound_of zero = NO_BOUND
bound_of (suc most) = suc most

-- With `out` bytes out of at most `most`, n more have to wait
abbrev pub Waits : ℕ → ℕ → ℕ → Type 0
Waits most out n = ((n ≤ most) × (most < out + n)) ⊎ ((most ≤ n) × (most < out))
