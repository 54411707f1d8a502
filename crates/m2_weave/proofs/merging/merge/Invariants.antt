use Rattle.m2_weave.specs.Counted.{entries_of}
use Rattle.m2_weave.specs.Merging.{Stands}
use Rattle.m2_weave.proofs.Going.{still_to_do}
use Rattle.m2_weave.proofs.merging.merge.Given as goal

abbrev pub invariant-looks : goal.invariant-looks
invariant-looks l = Stands (entries_of l.strands) l.counters l.progress

-- the entries that are still to come, and the strands that are to be looked at
abbrev pub decreases-looks : goal.decreases-looks
decreases-looks l = still_to_do (entries_of l.strands) l.users.items l.progress
