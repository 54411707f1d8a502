use Rattle.std.proofs.Common.{rules}
use Rattle.std.proofs.lemmas.Result.{on_ok_weaker}
use Rattle.m2_scenario.proofs.Ranked.{rank_of_lent, sorted_calls}
use Rattle.m2_scenario.proofs.reports.sort_calls.Goals as goal

pub returns : goal.returns
returns c = on_ok_weaker c.sort_by_rank.result (λ sorted. sorted_calls c.args.calls.now.items c.sort_by_rank.new.items.items (sorted rank_of_lent (λ shown r called. search (rules, called)))) c.sort_by_rank.ensures.ok
