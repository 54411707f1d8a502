-- The lemma.
use Rattle.m2_weave.proofs.Named.{come_in_order}
use Rattle.m2_weave.proofs.merge_laws.both_come_in_order.Goals as goal

pub returns : goal.returns
returns g c = come_in_order _ _
