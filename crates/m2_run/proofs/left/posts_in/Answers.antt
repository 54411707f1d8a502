-- The posts of one center more.
use Rattle.std.proofs.Common.{List, refl, ap, ◌∙◌, sum_by}
use Rattle.std.proofs.lemmas.List.Sums.{sum_by-append}
use Rattle.m2_node.specs.m2_script.m2_center.Center.{CenterNow}
use Rattle.m2_dispatch.specs.declared.logged.Logged.{Logged}
use Rattle.m2_node.specs.m2_script.Ways.{posts_to}
use Rattle.m2_run.proofs.Leaves.{counted_all, counted_more, records_over}
use Rattle.m2_run.proofs.left.posts_in.Goals as goal

pub centers-preserved : goal.centers-preserved
centers-preserved g c =
    let l = c.centers in
    let cs = c.args.centers.now in
    counted_more (sum_by (posts_to c.args.to)) (λ (d : CenterNow (List Logged)). d.records) cs l.center-index (sum_by-append (posts_to c.args.to)) c.center-item.result l.posts c.in_ok-posts_towards.field-0
    c.in_ok-posts.posts (sum_by (posts_to c.args.to) (records_over cs)) c.centers-test.true c.center-item.is (c.in_ok-posts_towards.ensures ∙ ap (sum_by (posts_to c.args.to)) c.records.ensures) c.in_ok-posts.ensures l.invariant

pub returns : goal.returns
returns g c =
    let l = c.centers in
    let cs = c.args.centers.now in
    counted_all (sum_by (posts_to c.args.to)) (λ (d : CenterNow (List Logged)). d.records) cs l.center-index refl l.posts (sum_by (posts_to c.args.to) (records_over cs)) c.centers-test.false l.invariant
