-- With the lines of what is left it is the whole text.
use Rattle.std.proofs.Common.{◌≡◌, ◌++◌, drop}
use Rattle.std.specs.List.{flat_map}
use Rattle.m2_run_trace.specs.News.{accepted_line}
use Rattle.m2_run_trace.proofs.news.put_all_accepted.Given as goal

abbrev pub invariant-loop-mark : goal.invariant-loop-mark
invariant-loop-mark l = let lines = flat_map (accepted_line l.teller) in l.out.bytes ++ lines (drop l.mark-index l.marks) ≡ l.fn.out.bytes ++ lines l.marks
