-- There is one less each time.
use Rattle.std.proofs.Common.{length}
use Rattle.m2_run.proofs.ending.throw_away_ends.Given as goal

abbrev pub decreases-nodes : goal.decreases-nodes
decreases-nodes g l = length l.ends.items
