use Rattle.m2_links_go_on.proofs.PeerTurns.{begin_of_peers}
use Rattle.m2_links_go_on.proofs.peer_laws.begin_of_peers.Goals as goal

pub returns : goal.returns
returns g c = begin_of_peers
