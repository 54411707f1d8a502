-- The lemma.
use Rattle.m2_links_go_on.proofs.Tables.{order_is_found}
use Rattle.m2_links_go_on.proofs.turn_laws.an_order_is_found.Goals as goal

pub returns : goal.returns
returns c = order_is_found
