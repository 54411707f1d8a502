use Rattle.m2_links_go_on.proofs.CourseKept.{missed_stay_counted}
use Rattle.m2_links_go_on.proofs.course_laws.missed_stay_counted.Goals as goal

pub returns : goal.returns
returns g c = missed_stay_counted _ _
