use Rattle.m2_scenario.proofs.ReadOnce.{report_once}
use Rattle.m2_scenario.proofs.SortedOnce.{sorted_once}
use Rattle.m2_scenario.proofs.report_laws.reports_are_read_in_one_way.Goals as goal

pub returns-clause-calls : goal.returns-clause-calls
returns-clause-calls c = report_once c.hex_is_read_again.ensures

pub returns-clause-sorted : goal.returns-clause-sorted
returns-clause-sorted c = sorted_once c.hex_is_read_again.ensures
