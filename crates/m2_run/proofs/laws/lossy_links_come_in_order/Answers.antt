-- The lemma.
use Rattle.m2_run.proofs.Joined.{lossy_in_order}
use Rattle.m2_run.proofs.laws.lossy_links_come_in_order.Goals as goal

pub returns : goal.returns
returns g c = lossy_in_order _ _
