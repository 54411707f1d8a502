use Rattle.std.proofs.Common.{length}
use Rattle.m2_run_trace.proofs.words.+name_at.Given as goal

abbrev pub decreases-name_at : goal.decreases-name_at
decreases-name_at l = length l.nodes.now
