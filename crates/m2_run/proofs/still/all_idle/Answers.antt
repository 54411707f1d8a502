-- One center more is idle.
use Rattle.std.proofs.Common.{◌≡◌, List, true, sym}
use Rattle.m2_node.specs.m2_script.m2_center.Center.{CenterNow}
use Rattle.m2_node.specs.m2_script.m2_center.Idle.{is_idle}
use Rattle.m2_dispatch.specs.declared.logged.Logged.{Logged}
use Rattle.m2_node.proofs.Places.{all_more}
use Rattle.m2_run.proofs.still.all_idle.Goals as goal

pub centers-preserved : goal.centers-preserved
centers-preserved g c =
    all_more (λ (d : CenterNow (List Logged)). is_idle c.args.now d ≡ true) c.args.centers.now c.centers.j c.index-centers-j.result c.centers-test.true c.index-centers-j.is (sym c.if-not-idle.ensures)
    c.centers.invariant
