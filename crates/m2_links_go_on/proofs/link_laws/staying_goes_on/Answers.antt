-- The lemma.
use Rattle.m2_links_go_on.proofs.Staying.{staying_goes_on}
use Rattle.m2_links_go_on.proofs.link_laws.staying_goes_on.Goals as goal

pub returns : goal.returns
returns c = staying_goes_on
