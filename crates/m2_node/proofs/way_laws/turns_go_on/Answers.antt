use Rattle.m2_node.proofs.Way.{turns_go_on}
use Rattle.m2_node.proofs.way_laws.turns_go_on.Goals as goal

pub returns : goal.returns
returns g c =
    turns_go_on _ _ _ c.turns_stay_on_course.ensures c.turn_grows.ensures c.coming_stays.ensures c.turns_stay_logged.ensures c.turns_stay_of_peers.ensures
