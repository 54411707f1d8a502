-- with the lines of what is left it is the whole text
use Rattle.std.proofs.Common.{◌≡◌, ◌++◌, drop}
use Rattle.std.specs.List.{flat_map}
use Rattle.m2_trace.specs.Ends.{judged_line}
use Rattle.m2_trace.proofs.trails.put_judged_lines.Given as goal

abbrev pub invariant-loop-item : goal.invariant-loop-item
invariant-loop-item l = let lines = flat_map (judged_line l.side l.what l.socket) in l.out.bytes ++ lines (drop l.item-index l.judged) ≡ l.fn.out.bytes ++ lines l.judged
