-- With the lines of what is left it is the whole text, and of the calls those are left that all entries leave.
use Rattle.std.proofs.Common.{◌≡◌, ◌++◌, ◌-◌}
use Rattle.m2_run_trace.specs.Entries.{calls_left, lines_of}
use Rattle.m2_run_trace.proofs.entries.put_entries.Given as goal

abbrev pub invariant-entries : goal.invariant-entries
invariant-entries l = record {
  text : l.out.bytes ++ lines_of l.teller l.marked l.at (l.to - l.at) l.calls ≡ l.fn.out.bytes ++ lines_of l.teller l.marked l.from (l.to - l.from) l.fn.calls;
  calls : calls_left l.marked.kept.journal l.at (l.to - l.at) l.calls ≡ calls_left l.marked.kept.journal l.from (l.to - l.from) l.fn.calls;
}
