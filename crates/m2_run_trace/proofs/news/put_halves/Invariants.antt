-- With what is said of the halves that are left it is all that is said.
use Rattle.std.proofs.Common.{◌≡◌, ◌++◌, drop}
use Rattle.m2_run_trace.specs.News.{halves_said}
use Rattle.m2_run_trace.proofs.news.put_halves.Given as goal

abbrev pub invariant-loop-mark : goal.invariant-loop-mark
invariant-loop-mark l = record {
  text : l.out.bytes ++ (halves_said l.teller (drop l.mark-index l.marks) l.told).text ≡ l.fn.out.bytes ++ (halves_said l.teller l.marks l.fn.told).text;
  told : (halves_said l.teller (drop l.mark-index l.marks) l.told).told ≡ (halves_said l.teller l.marks l.fn.told).told;
}
