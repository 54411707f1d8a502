-- The lemma.
use Rattle.m2_links_go_on.proofs.Linked.{links_go_on}
use Rattle.m2_links_go_on.proofs.link_laws.links_go_on.Goals as goal

pub returns : goal.returns
returns c = links_go_on
