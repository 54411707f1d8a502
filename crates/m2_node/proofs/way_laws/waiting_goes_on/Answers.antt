use Rattle.m2_node.proofs.Way.{waiting_goes_on}
use Rattle.m2_node.proofs.way_laws.waiting_goes_on.Goals as goal

pub returns : goal.returns
returns g c = waiting_goes_on _ _ c.waiting_stays_on_course.ensures
