-- with the lines of the entries that are left it is the whole text
use Rattle.std.proofs.Common.{◌≡◌, ◌++◌}
use Rattle.m2_trace.specs.Entries.{journal_lines}
use Rattle.m2_trace.specs.Rows.{nothing_held, side_of}
use Rattle.m2_trace.proofs.entries.put_journal.Given as goal

abbrev pub invariant-loop-e : goal.invariant-loop-e
invariant-loop-e l =
    let f = side_of l.session l.node in
    l.out.bytes ++ journal_lines f l.side l.held l.e-iterator ≡ l.fn.out.bytes ++ journal_lines f l.side nothing_held l.journal.items
