use Rattle.m2_links_go_on.proofs.CourseEnding.{centers_run_their_course}
use Rattle.m2_links_go_on.proofs.course_laws.centers_run_their_course.Goals as goal

pub returns : goal.returns
returns g c = centers_run_their_course _ _ _
