-- With the messages of the centers that are left they are all.
use Rattle.std.proofs.Common.{◌≡◌, ◌+◌, List, count_by, drop}
use Rattle.std.specs.List.{flat_map}
use Rattle.m2_node.specs.m2_script.m2_center.Center.{CenterNow}
use Rattle.m2_dispatch.specs.Heard.{heard_by, is_message_from}
use Rattle.m2_dispatch.specs.declared.logged.Logged.{Logged}
use Rattle.m2_run.proofs.left.queued_messages_in.Given as goal

abbrev pub invariant-centers : goal.invariant-centers
invariant-centers g l = l.count + count_by (is_message_from l.from) (heard_by (flat_map (λ (c : CenterNow (List Logged)). c.queued.inner) (drop l.center-index l.centers)))
    ≡ count_by (is_message_from l.from) (heard_by (flat_map (λ (c : CenterNow (List Logged)). c.queued.inner) l.centers))
