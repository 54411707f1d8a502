-- There is one worker less each time.
use Rattle.m2_node.proofs.threads.throw_away.Given as goal

abbrev pub decreases-workers : goal.decreases-workers
decreases-workers g l = goal.left-workers g l
