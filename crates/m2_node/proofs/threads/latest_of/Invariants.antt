-- The latest moment so far.
use Rattle.std.proofs.Common.{◌≡◌, take}
use Rattle.m2_node.specs.Working.{latest}
use Rattle.m2_node.proofs.threads.latest_of.Given as goal

abbrev pub invariant-workers : goal.invariant-workers
invariant-workers g l = l.now ≡ latest l.start (take l.k l.workers)
