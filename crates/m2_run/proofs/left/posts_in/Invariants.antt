-- With the posts of the centers that are left they are all.
use Rattle.std.proofs.Common.{◌≡◌, ◌+◌, List, drop, sum_by}
use Rattle.std.specs.List.{flat_map}
use Rattle.m2_node.specs.m2_script.m2_center.Center.{CenterNow}
use Rattle.m2_dispatch.specs.declared.logged.Logged.{Logged}
use Rattle.m2_node.specs.m2_script.Ways.{posts_to}
use Rattle.m2_run.proofs.left.posts_in.Given as goal

abbrev pub invariant-centers : goal.invariant-centers
invariant-centers g l = l.posts + sum_by (posts_to l.to) (flat_map (λ (c : CenterNow (List Logged)). c.records) (drop l.center-index l.centers))
    ≡ sum_by (posts_to l.to) (flat_map (λ (c : CenterNow (List Logged)). c.records) l.centers)
