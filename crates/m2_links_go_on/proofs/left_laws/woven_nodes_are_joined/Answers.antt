-- The lemma, by what holds of strands, of records, and of who asks.
use Rattle.m2_growth.proofs.Records.{askers_are}
use Rattle.m2_history.proofs.Whole.{records_are_sides}
use Rattle.m2_weave.proofs.Written.{all_read}
use Rattle.m2_links_go_on.proofs.LeftNodes.{are_joined}
use Rattle.m2_links_go_on.proofs.left_laws.woven_nodes_are_joined.Goals as goal

pub returns : goal.returns
returns c = are_joined all_read askers_are records_are_sides
