-- with the lines of what is left it is the whole text
use Rattle.std.proofs.Common.{◌≡◌, ◌++◌, drop}
use Rattle.std.specs.List.{flat_map}
use Rattle.m2_record_trace.specs.Trace.{half_lines}
use Rattle.m2_record_trace.proofs.text.put_halves.Given as goal

abbrev pub invariant-loop-half : goal.invariant-loop-half
invariant-loop-half l = let lines = flat_map (half_lines l.side) in l.out.bytes ++ lines (drop l.half-index l.halves) ≡ l.fn.out.bytes ++ lines l.halves
