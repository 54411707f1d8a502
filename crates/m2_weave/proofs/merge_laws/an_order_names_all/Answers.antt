-- The lemma.
use Rattle.m2_weave.proofs.Named.{names_all}
use Rattle.m2_weave.proofs.merge_laws.an_order_names_all.Goals as goal

pub returns : goal.returns
returns c = names_all
