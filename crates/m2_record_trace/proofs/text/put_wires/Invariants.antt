-- with the lines of what is left it is the whole text
use Rattle.std.proofs.Common.{◌≡◌, ◌++◌, drop}
use Rattle.std.specs.List.{flat_map}
use Rattle.m2_record_trace.specs.Trace.{wire_line}
use Rattle.m2_record_trace.proofs.text.put_wires.Given as goal

abbrev pub invariant-loop-wire : goal.invariant-loop-wire
invariant-loop-wire l = let lines = flat_map (wire_line) in l.out.bytes ++ lines (drop l.wire-index l.wires) ≡ l.fn.out.bytes ++ lines l.wires
