use Rattle.m2_node.proofs.Way.{polls_go_on}
use Rattle.m2_node.proofs.way_laws.polls_go_on.Goals as goal

pub returns : goal.returns
returns g c = polls_go_on _ _ c.polls_stay_on_course.ensures
