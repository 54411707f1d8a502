use Rattle.m2_links_go_on.proofs.PeerTurns.{turns_stay_of_peers}
use Rattle.m2_links_go_on.proofs.peer_laws.turns_stay_of_peers.Goals as goal

pub returns : goal.returns
returns g c = turns_stay_of_peers _
