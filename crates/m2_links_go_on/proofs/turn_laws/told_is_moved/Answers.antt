-- The lemma.
use Rattle.m2_links_go_on.proofs.ToldIsMoved.{told_is_moved}
use Rattle.m2_links_go_on.proofs.turn_laws.told_is_moved.Goals as goal

pub returns : goal.returns
returns c = told_is_moved
