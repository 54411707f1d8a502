-- There is one dispatcher less each time.
use Rattle.m2_node.proofs.posts.throw_away_dispatchers.Given as goal

abbrev pub decreases-dispatchers : goal.decreases-dispatchers
decreases-dispatchers l = goal.left-dispatchers l
