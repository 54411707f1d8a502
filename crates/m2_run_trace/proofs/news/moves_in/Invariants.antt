-- With those that are left they are all.
use Rattle.std.proofs.Common.{◌≡◌, ◌+◌, ◌≤◌, count_by, length}
use Rattle.m2_run_trace.specs.News.{is_move}
use Rattle.m2_run_trace.proofs.news.moves_in.Given as goal

abbrev pub invariant-loop-entry : goal.invariant-loop-entry
invariant-loop-entry l = record {
  count : l.count + count_by is_move l.entry-iterator ≡ count_by is_move l.entries.items;
  few : l.count + length l.entry-iterator ≤ length l.entries.items;
}
