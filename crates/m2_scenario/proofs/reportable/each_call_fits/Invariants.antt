-- the calls so far do
use Rattle.std.proofs.Common.{All, take}
use Rattle.m2_scenario.specs.Printed.{CallFits}
use Rattle.m2_scenario.proofs.reportable.each_call_fits.Given as goal

abbrev pub invariant-loop-call : goal.invariant-loop-call
invariant-loop-call l = All CallFits (take l.call-index l.log)
