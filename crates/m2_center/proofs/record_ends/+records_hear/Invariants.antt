use Rattle.std.proofs.Common.{length}
use Rattle.m2_center.proofs.record_ends.+records_hear.Given as goal

abbrev pub decreases-records_hear : goal.decreases-records_hear
decreases-records_hear g l = length l.records.now
