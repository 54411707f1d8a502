use Rattle.m2_links_go_on.proofs.CourseKept.{lasts_stay_given}
use Rattle.m2_links_go_on.proofs.course_laws.lasts_stay_given.Goals as goal

pub returns : goal.returns
returns g c = lasts_stay_given _ _ _ _
