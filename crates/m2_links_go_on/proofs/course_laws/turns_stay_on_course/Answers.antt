use Rattle.m2_links_go_on.proofs.CourseKept.{turns_stay_on_course}
use Rattle.m2_links_go_on.proofs.course_laws.turns_stay_on_course.Goals as goal

pub returns : goal.returns
returns g c = turns_stay_on_course _ _ _ _
