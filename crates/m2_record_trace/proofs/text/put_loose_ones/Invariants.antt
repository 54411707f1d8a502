-- with the lines of what is left it is the whole text
use Rattle.std.proofs.Common.{◌≡◌, ◌++◌, drop}
use Rattle.std.specs.List.{flat_map}
use Rattle.m2_record_trace.specs.Trace.{loose_lines}
use Rattle.m2_record_trace.proofs.text.put_loose_ones.Given as goal

abbrev pub invariant-loop-one : goal.invariant-loop-one
invariant-loop-one l = let lines = flat_map (loose_lines l.side) in l.out.bytes ++ lines (drop l.one-index l.loose) ≡ l.fn.out.bytes ++ lines l.loose
