use Rattle.m2_links_go_on.proofs.CourseKept.{sockets_stay_apart}
use Rattle.m2_links_go_on.proofs.course_laws.sockets_stay_apart.Goals as goal

pub returns : goal.returns
returns g c = sockets_stay_apart _ _
