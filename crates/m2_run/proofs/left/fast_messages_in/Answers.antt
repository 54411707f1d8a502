-- The messages of one center more.
use Rattle.std.proofs.Common.{List, refl, ap, ◌∙◌}
use Rattle.m2_node.specs.m2_script.m2_center.Center.{CenterNow}
use Rattle.m2_dispatch.specs.Heard.{heard_by}
use Rattle.m2_dispatch.specs.declared.logged.Logged.{Logged}
use Rattle.m2_run.proofs.Leaves.{counted_all, counted_more, fast_over, messages, messages_both}
use Rattle.m2_run.proofs.left.fast_messages_in.Goals as goal

pub centers-preserved : goal.centers-preserved
centers-preserved g c =
    let l = c.centers in
    let cs = c.args.centers.now in
    let count = λ (log : List Logged). messages c.args.from (heard_by log) in
    counted_more count (λ (d : CenterNow (List Logged)). d.out.fast) cs l.center-index (messages_both c.args.from) c.center-item.result l.count c.messages_of.result
    c.in_ok-count.count (count (fast_over cs)) c.centers-test.true c.center-item.is (c.messages_of.ensures ∙ ap count (c.as_slice.ensures ∙ c.log.ensures ∙ c.fast.ensures)) c.in_ok-count.ensures l.invariant

pub returns : goal.returns
returns g c =
    let l = c.centers in
    let cs = c.args.centers.now in
    let count = λ (log : List Logged). messages c.args.from (heard_by log) in
    counted_all count (λ (d : CenterNow (List Logged)). d.out.fast) cs l.center-index refl l.count (count (fast_over cs)) c.centers-test.false l.invariant
