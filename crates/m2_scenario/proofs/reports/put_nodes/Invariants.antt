-- with the lines of the nodes that are left it is the whole text
use Rattle.std.proofs.Common.{◌≡◌, ◌++◌, length, map, drop}
use Rattle.m2_scenario.specs.Report.{name_of}
use Rattle.m2_scenario.proofs.ReportLines.{lines_left}
use Rattle.m2_scenario.proofs.reports.put_nodes.Given as goal

abbrev pub invariant-loop-node : goal.invariant-loop-node
invariant-loop-node l =
    let k = length l.yielded in
    l.text.bytes ++ lines_left l.sorted (map name_of l.nodes) (drop k l.nodes) (drop k l.logs) ≡ l.fn.text.bytes ++ lines_left l.sorted (map name_of l.nodes) l.nodes l.logs
