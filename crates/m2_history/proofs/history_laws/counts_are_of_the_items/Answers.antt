use Rattle.m2_history.proofs.Counting.{counts_are}
use Rattle.m2_history.proofs.history_laws.counts_are_of_the_items.Goals as goal

pub returns : goal.returns
returns c = counts_are
