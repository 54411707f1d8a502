-- the logs so far do
use Rattle.std.proofs.Common.{All, take}
use Rattle.m2_scenario.specs.Printed.{LogFits}
use Rattle.m2_scenario.proofs.reportable.each_log_fits.Given as goal

abbrev pub invariant-loop-log : goal.invariant-loop-log
invariant-loop-log l = All LogFits (take l.log-index l.logs)
