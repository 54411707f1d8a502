use Rattle.std.proofs.Common.{◌≡◌, ℕ, ◌<◌, [], length}
use Rattle.std.specs.Prelude.{slice_index_or}
use Rattle.m2_weave.specs.Counted.{entries_of}
use Rattle.m2_weave.specs.Users.{AreListed}
use Rattle.m2_weave.proofs.users.users_of.Given as goal

-- the strands so far are listed
abbrev pub invariant-loop-k : goal.invariant-loop-k
invariant-loop-k l = record {
  count : length l.users.items ≡ l.counters;
  listed : (j : ℕ) → j < l.k → AreListed l.users.items j (slice_index_or (entries_of l.strands) j []);
}
