-- The sockets of both journals, and how many asks on each.
use Rattle.std.proofs.Common.{◌++◌, ◌∙◌, ap}
use Rattle.std.specs.Prelude.{replicate}
use Rattle.m2_history.specs.Sockets.{known_in}
use Rattle.m2_history.proofs.Known.{both_counted}
use Rattle.m2_history.proofs.sockets.KnownSockets.of.Goals as goal

pub invariant_of-result : goal.invariant_of-result
invariant_of-result c = record {
  these =
      c.in_ok-names.ensures ∙ c.in_ok-add_all_known-2.ensures
      ∙ ap (λ l. l ++ known_in c.args.b.now.items) (c.in_ok-add_all_known.ensures ∙ ap (λ l. l ++ known_in c.args.a.now.items) c.new-all.ensures.items);
  count = c.count_all_judged-2.ensures.count;
  judged = both_counted c.in_ok-names.names _ _ _ c.args.a.now.items c.args.b.now.items (c.in_ok-judged.ensures ∙ ap (λ n. replicate n 0) c.len.ensures)
      c.in_ok-count_all_judged.ensures.counted c.in_ok-count_all_judged-2.ensures.counted;
}
