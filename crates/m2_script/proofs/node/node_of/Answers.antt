-- The node is a new one, with its records.
use Rattle.std.proofs.Common.{◌≡◌, ◌+◌, List, [], map, Some, sym, ap, subst, ◌∙◌}
use Rattle.std.specs.Prelude.{slice_get}
use Rattle.std.proofs.lemmas.Option.{same_Some, slice_get-get_or}
use Rattle.m2_cluster.specs.m2_center.Making.{CanBegin, new_center}
use Rattle.m2_fabric.specs.CutPort.{Cutting, shown}
use Rattle.m2_fabric.specs.Port.{fresh_port}
use Rattle.m2_record.specs.RecordNow.{RecordNow}
use Rattle.m2_scenario.specs.Draft.{draft_line}
use Rattle.m2_scenario.specs.declared.node.Node.{Node}
use Rattle.m2_script.specs.Made.{records_of, roomless}
use Rattle.m2_script.specs.Nodes.{IsNewNode, cuts_of, none_drawn, none_granted}
use Rattle.m2_script.proofs.Over.{can_begin}
use Rattle.m2_script.proofs.SoFar.{if_some, of_four, of_some}
use Rattle.m2_script.proofs.node.node_of.Goals as goal

pub node_with-requires-clause-begin : goal.node_with-requires-clause-begin
node_with-requires-clause-begin c =
    let nodes = c.args.nodes.now in
    let k = c.args.number in
    let x : Node = c.index-nodes-number.result in
    let there : slice_get nodes k ≡ Some x = slice_get-get_or nodes k x c.requires.number ∙ ap Some (sym c.index-nodes-number.is) in
    subst (λ (p : Cutting). CanBegin x.entity (shown p) c.in_ok-records.records.items none_granted none_drawn)
    (sym (of_some (slice_get nodes k) (λ y. c.in_ok-port.port ≡ record { inner = fresh_port y.at; cuts = cuts_of nodes c.args.lines.now k }) x there c.in_ok-port.ensures))
    (can_begin nodes c.args.links.now (map draft_line c.args.lines.now) c.requires.sound k c.args.word c.in_ok-records.records.items c.in_ok-records.ensures x there
    (cuts_of nodes c.args.lines.now k) none_granted none_drawn)

pub returns : goal.returns
returns c =
    let nodes = c.args.nodes.now in
    let links = c.args.links.now in
    let lines = c.args.lines.now in
    let k = c.args.number in
    let x : Node = c.index-nodes-number.result in
    let rs : List RecordNow = c.in_ok-records.records.items in
    let there : slice_get nodes k ≡ Some x = slice_get-get_or nodes k x c.requires.number ∙ ap Some (sym c.index-nodes-number.is) in
    let port = of_some (slice_get nodes k) (λ y. c.in_ok-port.port ≡ record { inner = fresh_port y.at; cuts = cuts_of nodes lines k }) x there c.in_ok-port.ensures in
    let over : map roomless rs ≡ records_of nodes links k (k + 1) = c.in_ok-records.ensures ∙ ap (records_of nodes links k) c.requires.word in
    of_four c.node_with.result _ _ _ _ _
    (λ n center numbers throttles whole. if_some (slice_get nodes k) (λ y. IsNewNode nodes links lines k y n)
    (λ y e. subst (λ (z : Node). IsNewNode nodes links lines k z n) (same_Some x y (sym there ∙ e)) (record { records = rs; over = over; center = center ∙ ap (λ (p : Cutting). new_center x.entity (shown p) rs [] [] none_granted none_drawn) port; numbers = numbers; throttles = throttles; whole = whole })))
    c.node_with.ensures.center c.node_with.ensures.numbers c.node_with.ensures.throttles c.node_with.ensures.whole
