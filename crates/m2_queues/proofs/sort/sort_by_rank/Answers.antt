use Rattle.std.proofs.Common.{rules}
use Rattle.std.proofs.lemmas.Fn.{always_returns_same}
use Rattle.m2_queues.proofs.ByRank.{by_rank-sorted, less_test}
use Rattle.m2_queues.proofs.sort.sort_by_rank.Goals as goal

pub returns-clause-ok : goal.returns-clause-ok
returns-clause-ok g c rank_of is =
    let keys = always_returns_same _ _ _ (λ a r next called. search (rules, is)) in
    let sorted = c.in_ok-sort_by_key.ensures.sorted (λ x. record { 0 = rank_of x }) keys in
    let stable = c.in_ok-sort_by_key.ensures.stable (λ x. record { 0 = rank_of x }) keys in
    by_rank-sorted rank_of _ (λ x y. less_test _ _) _ _ sorted stable
