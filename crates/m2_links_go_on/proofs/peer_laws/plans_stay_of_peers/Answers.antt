use Rattle.m2_links_go_on.proofs.PeerTurns.{plans_stay_of_peers}
use Rattle.m2_links_go_on.proofs.peer_laws.plans_stay_of_peers.Goals as goal

pub returns : goal.returns
returns g c = plans_stay_of_peers
