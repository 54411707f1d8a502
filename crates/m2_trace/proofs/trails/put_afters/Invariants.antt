-- with the lines of what is left it is the whole text
use Rattle.std.proofs.Common.{◌≡◌, ◌++◌, drop}
use Rattle.std.specs.List.{flat_map}
use Rattle.m2_trace.specs.Ends.{after_line}
use Rattle.m2_trace.proofs.trails.put_afters.Given as goal

abbrev pub invariant-loop-count : goal.invariant-loop-count
invariant-loop-count l = let lines = flat_map (after_line l.side l.what l.socket) in l.out.bytes ++ lines (drop l.count-index l.counts) ≡ l.fn.out.bytes ++ lines l.counts
