-- The lemma.
use Rattle.m2_links_go_on.proofs.Sides.{sides_are_later}
use Rattle.m2_links_go_on.proofs.turn_laws.sides_are_later.Goals as goal

pub returns : goal.returns
returns c = sides_are_later
