-- The lemma.
use Rattle.m2_links_go_on.proofs.LeftNodes.{are_of_link}
use Rattle.m2_links_go_on.proofs.left_laws.left_are_of_link.Goals as goal

pub returns : goal.returns
returns c = are_of_link
