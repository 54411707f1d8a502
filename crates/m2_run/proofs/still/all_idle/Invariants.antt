-- Those before are idle.
use Rattle.std.proofs.Common.{◌≡◌, true, take, List}
use Rattle.std.specs.List.{AllByRecursion}
use Rattle.m2_node.specs.m2_script.m2_center.Center.{CenterNow}
use Rattle.m2_node.specs.m2_script.m2_center.Idle.{is_idle}
use Rattle.m2_dispatch.specs.declared.logged.Logged.{Logged}
use Rattle.m2_run.proofs.still.all_idle.Given as goal

abbrev pub invariant-centers : goal.invariant-centers
invariant-centers g l = AllByRecursion (λ (c : CenterNow (List Logged)). is_idle l.now c ≡ true) (take l.j l.centers)
