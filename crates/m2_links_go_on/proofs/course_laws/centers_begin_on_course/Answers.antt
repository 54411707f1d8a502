use Rattle.m2_links_go_on.proofs.CourseBeginning.{centers_begin_on_course}
use Rattle.m2_links_go_on.proofs.course_laws.centers_begin_on_course.Goals as goal

pub returns : goal.returns
returns g c = centers_begin_on_course _ _ _
