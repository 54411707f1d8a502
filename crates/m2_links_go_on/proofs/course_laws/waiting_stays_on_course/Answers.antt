use Rattle.m2_links_go_on.proofs.CourseKept.{waiting_stays_on_course}
use Rattle.m2_links_go_on.proofs.course_laws.waiting_stays_on_course.Goals as goal

pub returns : goal.returns
returns g c = waiting_stays_on_course _ _ _
