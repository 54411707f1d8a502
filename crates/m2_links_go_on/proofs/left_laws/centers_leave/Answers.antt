-- The lemma.
use Rattle.m2_links_go_on.proofs.Leaves.{centers_leave}
use Rattle.m2_links_go_on.proofs.left_laws.centers_leave.Goals as goal

pub returns : goal.returns
returns c = centers_leave
