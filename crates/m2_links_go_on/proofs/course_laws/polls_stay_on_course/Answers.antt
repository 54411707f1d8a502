use Rattle.m2_links_go_on.proofs.CourseKept.{polls_stay_on_course}
use Rattle.m2_links_go_on.proofs.course_laws.polls_stay_on_course.Goals as goal

pub returns : goal.returns
returns g c = polls_stay_on_course _ _ _
