-- With the entries that are left it is what is held behind all of them.
use Rattle.std.proofs.Common.{◌≡◌}
use Rattle.m2_trace.specs.Rows.{held_behind, held_from, side_of}
use Rattle.m2_trace.proofs.rows.held_behind.Given as goal

abbrev pub invariant-loop-entry : goal.invariant-loop-entry
invariant-loop-entry l = let f = side_of l.session l.node in held_from f l.held l.entry-iterator ≡ held_behind f l.fn.journal
