-- None of those so far is one.
use Rattle.std.proofs.Common.{◌≡◌, List, drop}
use Rattle.std.specs.List.{flat_map, list_any}
use Rattle.m2_node.specs.m2_script.m2_center.Center.{CenterNow}
use Rattle.m2_dispatch.specs.declared.logged.Logged.{Logged}
use Rattle.m2_node.specs.m2_script.Ways.{is_down_to}
use Rattle.m2_run.proofs.left.is_down_in.Given as goal

abbrev pub invariant-centers : goal.invariant-centers
invariant-centers g l = list_any (is_down_to l.to) (flat_map (λ (c : CenterNow (List Logged)). c.records) (drop l.center-index l.centers))
    ≡ list_any (is_down_to l.to) (flat_map (λ (c : CenterNow (List Logged)). c.records) l.centers)
