use Rattle.std.proofs.Common.{length}
use Rattle.m2_run_trace.proofs.script.+facts_of.Given as goal

abbrev pub decreases-facts_of : goal.decreases-facts_of
decreases-facts_of l = length l.nodes.now
