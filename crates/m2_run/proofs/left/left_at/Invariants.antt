-- With what is left over the links that are left it is all.
use Rattle.std.proofs.Common.{◌≡◌, ◌+◌, drop, sum_by}
use Rattle.m2_dispatch.specs.Heard.{heard_by}
use Rattle.m2_run.specs.Kept.{ended_as_one}
use Rattle.m2_node.specs.m2_script.Outcome.{left_over}
use Rattle.m2_run.proofs.left.left_at.Given as goal

abbrev pub invariant-links : goal.invariant-links
invariant-links g l = l.left + sum_by (left_over heard_by (ended_as_one l.all)) (drop l.link-index l.links) ≡ sum_by (left_over heard_by (ended_as_one l.all)) l.links
