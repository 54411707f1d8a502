use Rattle.std.proofs.Common.{length}
use Rattle.m2_center.proofs.record_ends.+record_log.Given as goal

abbrev pub decreases-record_log : goal.decreases-record_log
decreases-record_log g l = length l.records.now
