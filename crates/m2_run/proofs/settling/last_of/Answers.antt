-- One center more.
use Rattle.std.proofs.Common.{List, ap, ◌∙◌}
use Rattle.std.specs.Prelude.{fold}
use Rattle.m2_node.specs.m2_script.m2_center.Center.{CenterNow}
use Rattle.m2_dispatch.specs.declared.logged.Logged.{Logged}
use Rattle.m2_run.specs.Kept.{later_of}
use Rattle.m2_run.proofs.Settled.{one_further}
use Rattle.m2_run.proofs.settling.last_of.Goals as goal

pub centers-preserved : goal.centers-preserved
centers-preserved g c =
    let l = c.centers in
    one_further (λ most (x : CenterNow (List Logged)). fold later_of most x.records) c.args.earlier c.args.centers.now l.j l.last l.invariant c.last_at-last.result c.index-centers-j.result
    c.centers-test.true c.index-centers-j.is (c.last_at-last.ensures ∙ ap (fold later_of l.last) c.records.ensures)
