use Rattle.m2_links_go_on.proofs.CourseKept.{dials_stay_in_time}
use Rattle.m2_links_go_on.proofs.course_laws.dials_stay_in_time.Goals as goal

pub returns : goal.returns
returns g c = dials_stay_in_time _ _
