use Rattle.std.proofs.Common.{length}
use Rattle.m2_center.proofs.memory.+records_are_in_memory.Given as goal

abbrev pub decreases-records_are_in_memory : goal.decreases-records_are_in_memory
decreases-records_are_in_memory g l = length l.records.now
