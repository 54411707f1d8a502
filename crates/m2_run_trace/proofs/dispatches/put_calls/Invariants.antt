-- With the lines of what is left it is the whole text.
use Rattle.std.proofs.Common.{◌≡◌, ◌++◌, drop}
use Rattle.std.specs.List.{flat_map}
use Rattle.m2_run_trace.specs.Dispatches.{call_line}
use Rattle.m2_run_trace.proofs.dispatches.put_calls.Given as goal

abbrev pub invariant-loop-call : goal.invariant-loop-call
invariant-loop-call l = let lines = flat_map (call_line l.teller) in l.out.bytes ++ lines (drop l.call-index l.calls) ≡ l.fn.out.bytes ++ lines l.calls
