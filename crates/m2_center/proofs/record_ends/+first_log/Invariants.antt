use Rattle.std.proofs.Common.{length}
use Rattle.m2_center.proofs.record_ends.+first_log.Given as goal

abbrev pub decreases-first_log : goal.decreases-first_log
decreases-first_log g l = length l.ends.now
