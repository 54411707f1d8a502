use Rattle.std.proofs.Common.{length}
use Rattle.m2_center.proofs.counting.+entries_in.Given as goal

abbrev pub decreases-entries_in : goal.decreases-entries_in
decreases-entries_in g l = length l.records.now
