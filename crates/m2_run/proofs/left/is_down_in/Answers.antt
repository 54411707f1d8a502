-- One center more has none that was marked down.
use Rattle.std.proofs.Common.{List, ap, sym, ◌∙◌}
use Rattle.std.specs.List.{list_any}
use Rattle.m2_node.specs.m2_script.m2_center.Center.{CenterNow}
use Rattle.m2_dispatch.specs.declared.logged.Logged.{Logged}
use Rattle.m2_node.specs.m2_script.Ways.{is_down_to}
use Rattle.m2_run.proofs.Leaves.{any_found, any_more, none_given, records_over}
use Rattle.m2_run.proofs.left.is_down_in.Goals as goal

pub returns-then-is_down_towards : goal.returns-then-is_down_towards
returns-then-is_down_towards g c =
    let l = c.centers in
    let cs = c.args.centers.now in
    any_found (is_down_to c.args.to) (λ (d : CenterNow (List Logged)). d.records) cs l.center-index c.center-item.result c.centers-test.true c.center-item.is (list_any (is_down_to c.args.to) (records_over cs))
    (sym (c.if-is_down_towards.ensures ∙ ap (list_any (is_down_to c.args.to)) c.records.ensures)) l.invariant

pub centers-preserved : goal.centers-preserved
centers-preserved g c =
    let l = c.centers in
    let cs = c.args.centers.now in
    any_more (is_down_to c.args.to) (λ (d : CenterNow (List Logged)). d.records) cs l.center-index c.center-item.result c.centers-test.true c.center-item.is (list_any (is_down_to c.args.to) (records_over cs))
    (sym (c.if-is_down_towards.ensures ∙ ap (list_any (is_down_to c.args.to)) c.records.ensures)) l.invariant

pub returns : goal.returns
returns g c =
    let l = c.centers in
    let cs = c.args.centers.now in
    sym (ap (list_any (is_down_to c.args.to)) (none_given (λ (d : CenterNow (List Logged)). d.records) cs l.center-index c.centers-test.false)) ∙ l.invariant
