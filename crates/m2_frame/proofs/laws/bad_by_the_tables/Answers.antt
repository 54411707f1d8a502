use Rattle.m2_frame.proofs.Faults.{judged_is_bad, bad_is_judged, right_has_none}
use Rattle.m2_frame.proofs.laws.bad_by_the_tables.Goals as goal

pub returns-clause-bad : goal.returns-clause-bad
returns-clause-bad c rest f = (judged_is_bad rest f, bad_is_judged rest f)

pub returns-clause-right : goal.returns-clause-right
returns-clause-right c = right_has_none
