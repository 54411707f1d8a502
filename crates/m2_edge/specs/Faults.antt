-- Counts of faults, and what an answer says of them: nobody answers with a fault that didn't happen.
use Rattle.std.specs.Prelude.{ℕ, ◌+◌, ◌-◌, ◌^◌, ◌≤◌, min, max, Result, OnErr}
use Rattle.m2_edge.specs.declared.failed.Failed.{Failed}

-- one more; at the end of 64 bits a count stands still
abbrev pub next_count : ℕ → ℕ
next_count n = max n (min (n + 1) (2 ^ 64 - 1))

-- the count rose, or it stands at the end of 64 bits, where it can't rise
abbrev pub HasRisen : ℕ → ℕ → Type 0
HasRisen old new = next_count old ≤ new

-- An answer and the count of faults before and after the call: the count never falls, and Failed comes
-- only where it rose.
pub record HasCause {X : Type 0} (result : Result X Failed) (old new : ℕ) : Type 0 where
  pub never_falls : old ≤ new
  pub failed : OnErr result (HasRisen old new)
