-- Those of one center more are taken off.
use Rattle.std.proofs.Common.{List, cond, arith, refl, ap, ◌∙◌}
use Rattle.std.specs.Prelude.{count_by}
use Rattle.std.proofs.lemmas.List.Sums.{sum_by-append}
use Rattle.m2_dispatch.specs.declared.logged.Logged.{Logged}
use Rattle.m2_fabric.specs.declared.socket.SocketId.{SocketId}
use Rattle.m2_node.specs.m2_script.m2_center.Center.{CenterNow}
use Rattle.m2_run.specs.Still.{is_missing_to}
use Rattle.m2_run.proofs.Leaves.{made_over, taken_all, taken_more}
use Rattle.m2_run.proofs.still.less_missing_over.Goals as goal

pub centers-preserved : goal.centers-preserved
centers-preserved g c =
    let l = c.centers in
    let cs = c.args.centers.now in
    let missing = is_missing_to c.args.to.now.at c.args.near.now c.args.far.now in
    taken_more (count_by missing) (λ (d : CenterNow (List Logged)). d.port.made) cs l.center-index (sum_by-append (λ (s : SocketId). cond (missing s) 1 0)) c.center-item.result l.rest c.in-Some.less
    c.missing_of.result c.args.rest (count_by missing (made_over cs)) c.centers-test.true c.center-item.is (c.missing_of.ensures ∙ ap (count_by missing) (c.as_slice.ensures ∙ c.made.ensures))
    (omega (arith, c.in-Some.ensures)) l.invariant

pub returns : goal.returns
returns g c =
    let l = c.centers in
    let cs = c.args.centers.now in
    let missing = is_missing_to c.args.to.now.at c.args.near.now c.args.far.now in
    taken_all (count_by missing) (λ (d : CenterNow (List Logged)). d.port.made) cs l.center-index refl l.rest c.args.rest (count_by missing (made_over cs)) c.centers-test.false l.invariant
