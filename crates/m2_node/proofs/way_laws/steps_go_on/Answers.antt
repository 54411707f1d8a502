use Rattle.m2_node.proofs.Way.{steps_go_on}
use Rattle.m2_node.proofs.way_laws.steps_go_on.Goals as goal

pub returns : goal.returns
returns g c = steps_go_on _ _ _ c.turns_go_on.ensures c.polls_go_on.ensures
