-- The lemma.
use Rattle.m2_links_go_on.proofs.Came.{coming_stays}
use Rattle.m2_links_go_on.proofs.left_laws.coming_stays.Goals as goal

pub returns : goal.returns
returns c = coming_stays
