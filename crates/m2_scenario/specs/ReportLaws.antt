-- What holds of reports.
use Rattle.std.specs.Prelude.{◌≡◌, ℕ, true, List, length, map}
use Rattle.m2_dispatch.specs.Heard.{Heard}
use Rattle.m2_scenario.specs.declared.node.Node.{Node}
use Rattle.m2_scenario.specs.Report.{in_order, report_of}
use Rattle.m2_scenario.specs.Printed.{AreNamed, AreReportable, PrintAlike, Printed, printed_of}

-- A report is read in one way: where two runs print one text, each node heard alike in both, call by call, in all
-- that a line prints.
abbrev pub ReportsAreReadInOneWay : Type 0
ReportsAreReadInOneWay = (nodes : List Node) (one other : List (List Heard)) →
    AreNamed nodes → AreReportable nodes one → AreReportable nodes other →
    PrintAlike nodes one other → map (map printed_of) one ≡ map (map printed_of) other

-- what the lines of a node print where they are sorted, of so many nodes
abbrev pub printed_sorted : ℕ → List Heard → List Printed
printed_sorted nodes heard = map printed_of (in_order true nodes heard)

-- A sorted report is read in one way too: where two runs print one text, each node's calls are alike in both once
-- they are sorted.
abbrev pub SortedReportsAreReadInOneWay : Type 0
SortedReportsAreReadInOneWay = (nodes : List Node) (one other : List (List Heard)) →
    AreNamed nodes → AreReportable nodes one → AreReportable nodes other →
    report_of true nodes one ≡ report_of true nodes other →
    map (printed_sorted (length nodes)) one ≡ map (printed_sorted (length nodes)) other
