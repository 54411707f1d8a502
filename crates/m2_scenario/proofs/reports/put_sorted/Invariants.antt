-- with the lines of the peers that are left it is the whole text
use Rattle.std.proofs.Common.{◌≡◌, ◌++◌, ◌-◌, length, map}
use Rattle.std.specs.List.{flat_map, range_with_len}
use Rattle.m2_dispatch.specs.Heard.{heard_by}
use Rattle.m2_scenario.specs.Report.{line_of, name_of, sorted_of}
use Rattle.m2_scenario.proofs.reports.put_sorted.Given as goal

abbrev pub invariant-loop-peer : goal.invariant-loop-peer
invariant-loop-peer l =
    let lines = flat_map (line_of (map name_of l.nodes) l.node) in
    let sorted = flat_map (sorted_of (heard_by l.log)) in
    let nodes = length l.nodes in
    l.text.bytes ++ lines (sorted (range_with_len l.peer (nodes - l.peer))) ≡ l.fn.text.bytes ++ lines (sorted (range_with_len 0 nodes))
