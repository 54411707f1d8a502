-- There is one thread less each time, and then one dispatcher.
use Rattle.m2_node.proofs.posts.throw_away_posts.Given as goal

abbrev pub decreases-senders : goal.decreases-senders
decreases-senders g l = goal.left-senders g l

abbrev pub decreases-servers : goal.decreases-servers
decreases-servers g l = goal.left-servers g l
