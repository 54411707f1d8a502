-- with the lines of what is left it is the whole text
use Rattle.std.proofs.Common.{◌≡◌, ◌++◌}
use Rattle.std.specs.List.{flat_map}
use Rattle.m2_trace.specs.Entries.{entry_line}
use Rattle.m2_trace.proofs.entries.put_entries.Given as goal

abbrev pub invariant-loop-e : goal.invariant-loop-e
invariant-loop-e l = let lines = flat_map (entry_line l.side l.what) in l.out.bytes ++ lines l.e-iterator ≡ l.fn.out.bytes ++ lines l.entries.items
