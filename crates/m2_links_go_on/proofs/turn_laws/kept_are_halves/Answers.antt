-- The lemma.
use Rattle.m2_links_go_on.proofs.KeptHalves.{kept_are_halves}
use Rattle.m2_links_go_on.proofs.turn_laws.kept_are_halves.Goals as goal

pub returns : goal.returns
returns c = kept_are_halves
