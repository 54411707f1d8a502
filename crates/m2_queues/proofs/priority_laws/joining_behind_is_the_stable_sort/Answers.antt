use Rattle.m2_queues.specs.ByRank.{put_behind}
use Rattle.m2_queues.proofs.Joining.{falling, falls, by_rank-joined, falls-put_behind, rank-put_behind}
use Rattle.m2_queues.proofs.priority_laws.joining_behind_is_the_stable_sort.Goals as goal

pub returns-clause-sorts : goal.returns-clause-sorts
returns-clause-sorts g c rank xs x = by_rank-joined rank xs x

pub returns-clause-falls : goal.returns-clause-falls
returns-clause-falls g c rank xs x h = falling rank (put_behind rank x xs) (falls-put_behind rank xs x (falls rank xs h))

pub returns-clause-last : goal.returns-clause-last
returns-clause-last g c rank xs x n h = rank-put_behind rank n xs x (falls rank xs h)
