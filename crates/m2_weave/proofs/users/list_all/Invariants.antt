use Rattle.std.proofs.Common.{ℕ, ◌<◌}
use Rattle.std.specs.Prelude.{slice_index_or}
use Rattle.m2_weave.specs.declared.counted.CountedEntry.{CountedEntry}
use Rattle.m2_weave.specs.Users.{IsListed, ListsMore}
use Rattle.m2_weave.proofs.users.list_all.Given as goal

-- the entries so far are listed
abbrev pub invariant-loop-e : goal.invariant-loop-e
invariant-loop-e l = record {
  more : ListsMore l.initial.users l.users;
  listed : (i : ℕ) (d : CountedEntry) → i < l.e-index → IsListed l.users l.strand (slice_index_or l.entries i d).need;
}
