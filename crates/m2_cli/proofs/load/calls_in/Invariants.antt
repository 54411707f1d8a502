-- with the calls of what is left it is the whole sum
use Rattle.std.proofs.Common.{◌≡◌, ◌+◌, length, map, drop, sum_by}
use Rattle.m2_scenario.specs.Report.{heard_in}
use Rattle.m2_cli.proofs.load.calls_in.Given as goal

abbrev pub invariant-logs : goal.invariant-logs
invariant-logs l = l.count + sum_by length (map heard_in (drop l.log-index l.logs.items)) ≡ sum_by length (map heard_in l.fn.logs.items)
