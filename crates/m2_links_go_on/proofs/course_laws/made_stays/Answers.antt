use Rattle.m2_links_go_on.proofs.CourseKept.{made_stays}
use Rattle.m2_links_go_on.proofs.course_laws.made_stays.Goals as goal

pub returns : goal.returns
returns g c = made_stays _ _
