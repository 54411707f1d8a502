-- The lemma.
use Rattle.m2_links_go_on.proofs.Telling.{records_tell_all}
use Rattle.m2_links_go_on.proofs.turn_laws.records_tell_all.Goals as goal

pub returns : goal.returns
returns c = records_tell_all
