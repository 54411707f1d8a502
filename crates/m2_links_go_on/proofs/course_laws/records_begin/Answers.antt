use Rattle.m2_links_go_on.proofs.CourseBeginning.{records_begin}
use Rattle.m2_links_go_on.proofs.course_laws.records_begin.Goals as goal

pub returns : goal.returns
returns c = records_begin
