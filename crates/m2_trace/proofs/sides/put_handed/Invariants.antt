-- with the lines of what is left it is the whole text
use Rattle.std.proofs.Common.{◌≡◌, ◌++◌, drop}
use Rattle.std.specs.List.{flat_map}
use Rattle.m2_dispatch.specs.Heard.{heard_by}
use Rattle.m2_trace.specs.Sides.{heard_line}
use Rattle.m2_trace.proofs.sides.put_handed.Given as goal

abbrev pub invariant-loop-call : goal.invariant-loop-call
invariant-loop-call l = let lines = flat_map (heard_line l.side) in l.out.bytes ++ lines (heard_by (drop l.call-index l.log)) ≡ l.fn.out.bytes ++ lines (heard_by l.log)
