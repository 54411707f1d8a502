-- With the entries that are left it is the cause behind all of them.
use Rattle.std.proofs.Common.{◌≡◌}
use Rattle.m2_trace.specs.Dials.{cause_behind}
use Rattle.m2_trace.proofs.dials.cause_behind.Given as goal

abbrev pub invariant-loop-entry : goal.invariant-loop-entry
invariant-loop-entry l = cause_behind l.behind l.entry-iterator ≡ cause_behind l.fn.cause l.fn.entries
