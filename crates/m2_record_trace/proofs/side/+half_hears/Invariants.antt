use Rattle.std.proofs.Common.{length}
use Rattle.m2_record_trace.proofs.side.+half_hears.Given as goal

abbrev pub decreases-half_hears : goal.decreases-half_hears
decreases-half_hears l = length l.halves.now
