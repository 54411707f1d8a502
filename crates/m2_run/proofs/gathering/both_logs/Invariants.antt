-- With what both are of those that are left, both are of all.
use Rattle.std.proofs.Common.{List, ◌++◌}
use Rattle.m2_bytes.specs.Items.{Holding}
use Rattle.m2_dispatch.specs.declared.logged.Logged.{Logged}
use Rattle.m2_node.specs.Handing.{AreBoth}
use Rattle.m2_run.proofs.gathering.both_logs.Given as goal

abbrev pub invariant-nodes : goal.invariant-nodes
invariant-nodes l = (more : List (Holding Logged)) → AreBoth l.log-iterator.rest.items l.queued.rest.items more → AreBoth l.fn.fast.items l.fn.queued.items (l.all.items ++ more)
