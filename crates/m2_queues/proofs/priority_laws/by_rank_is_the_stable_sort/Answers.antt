use Rattle.std.proofs.Common.{refl}
use Rattle.m2_queues.specs.ByRank.{goes_before}
use Rattle.m2_queues.proofs.ByRank.{stable_sort, by_rank-sorted}
use Rattle.m2_queues.proofs.priority_laws.by_rank_is_the_stable_sort.Goals as goal

pub returns-clause-is : goal.returns-clause-is
returns-clause-is g c rank xs = stable_sort rank xs

pub returns-clause-one : goal.returns-clause-one
returns-clause-one g c rank xs ys h = by_rank-sorted rank (goes_before rank) (λ x y. refl) xs ys h.sorted h.stable
