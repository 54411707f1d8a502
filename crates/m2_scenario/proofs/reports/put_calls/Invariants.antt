-- with the lines of what is left it is the whole text
use Rattle.std.proofs.Common.{◌≡◌, ◌++◌, map, drop}
use Rattle.std.specs.List.{flat_map}
use Rattle.m2_dispatch.specs.Heard.{heard_by}
use Rattle.m2_scenario.specs.Report.{line_of, name_of}
use Rattle.m2_scenario.proofs.reports.put_calls.Given as goal

abbrev pub invariant-loop-call : goal.invariant-loop-call
invariant-loop-call l =
    let lines = flat_map (line_of (map name_of l.nodes) l.node) in
    l.text.bytes ++ lines (heard_by (drop l.call-index l.log)) ≡ l.fn.text.bytes ++ lines (heard_by l.log)
