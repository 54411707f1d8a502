-- The lemma of the same name.
use Rattle.m2_weave.proofs.Furthest.{greedy_is_an_order}
use Rattle.m2_weave.proofs.merge_laws.greedy_is_an_order.Goals as goal

pub returns : goal.returns
returns c = greedy_is_an_order
