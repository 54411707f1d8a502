-- The logs so far, and those that the nodes that are left lead to, are all.
use Rattle.std.proofs.Common.{◌≡◌, ◌++◌, map, length}
use Rattle.m2_script.specs.Ended.{both_in}
use Rattle.m2_scenario.specs.Report.{heard_in}
use Rattle.m2_script.proofs.Logs.{heard_from}
use Rattle.m2_script.proofs.turns.logs_of.Given as goal

abbrev pub invariant-loop-both : goal.invariant-loop-both
invariant-loop-both l =
    map heard_in l.logs.items ++ heard_from (length l.logs.items) l.calls (map both_in l.both-iterator.rest.items) ≡ heard_from 0 l.calls (map both_in l.fn.ended.items)
