use Rattle.m2_links_go_on.proofs.ToCome.{incoming_to_come}
use Rattle.m2_links_go_on.proofs.told.incoming_is_to_come.Goals as goal

pub returns : goal.returns
returns c = incoming_to_come
