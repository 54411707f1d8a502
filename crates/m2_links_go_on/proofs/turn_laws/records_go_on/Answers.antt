-- The lemma.
use Rattle.m2_links_go_on.proofs.Records.{records_go_on}
use Rattle.m2_links_go_on.proofs.turn_laws.records_go_on.Goals as goal

pub returns : goal.returns
returns c = records_go_on
