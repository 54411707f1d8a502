-- with the lines of what is left it is the whole text
use Rattle.std.proofs.Common.{◌≡◌, ◌++◌, codes, drop}
use Rattle.std.specs.List.{flat_map}
use Rattle.m2_trace.specs.Ends.{end_lines}
use Rattle.m2_record_trace.proofs.text.put_spent.Given as goal

abbrev pub invariant-loop-end : goal.invariant-loop-end
invariant-loop-end l = let lines = flat_map (end_lines l.side (codes "spent")) in l.out.bytes ++ lines (drop l.end-index l.spent) ≡ l.fn.out.bytes ++ lines l.spent
