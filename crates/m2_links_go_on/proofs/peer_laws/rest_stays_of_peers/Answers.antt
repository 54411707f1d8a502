use Rattle.m2_links_go_on.proofs.PeerTurns.{rest_stays_of_peers}
use Rattle.m2_links_go_on.proofs.peer_laws.rest_stays_of_peers.Goals as goal

pub returns : goal.returns
returns g c = rest_stays_of_peers
