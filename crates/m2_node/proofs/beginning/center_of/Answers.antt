-- It has the records of its node's links whose peers are at home there, which have done nothing.
use Rattle.std.proofs.Common.{◌≡◌, List, Some, ap, sym, subst, ◌∙◌}
use Rattle.std.specs.Prelude.{slice_get}
use Rattle.std.proofs.lemmas.Option.{slice_get-get_or}
use Rattle.m2_dispatch.specs.m2_shared.Gates.{pass_places}
use Rattle.m2_dispatch.specs.m2_shared.Numbers.{SeenNumberPass}
use Rattle.m2_script.specs.m2_record.RecordNow.{RecordNow}
use Rattle.m2_scenario.specs.declared.node.Node.{Node}
use Rattle.m2_script.proofs.SoFar.{of_some}
use Rattle.m2_script.specs.m2_center.Finishing.{AllOwn}
use Rattle.m2_node.specs.Begins.{IsBeginning, IsPortFor}
use Rattle.m2_node.specs.Homes.{is_at_home, steps_at_home}
use Rattle.m2_node.specs.Nodes.{IsServedBy}
use Rattle.m2_node.specs.Ports.{seen_port}
use Rattle.m2_node.specs.declared.planning.StepTowards.{StepTowards}
use Rattle.m2_node.proofs.HomesBegin.{is_beginning, kept_can_begin}
use Rattle.m2_node.proofs.NodesBegin.{new_peers}
use Rattle.m2_node.proofs.OutPorts.{if_some}
use Rattle.m2_node.proofs.RightsSplit.{unused_passes}
use Rattle.m2_node.proofs.WorkersBegin.{ok_so}
use Rattle.m2_node.proofs.beginning.center_of.Goals as goal

pub planned_records-requires-clause-peers : goal.planned_records-requires-clause-peers
planned_records-requires-clause-peers g c = new_peers c.args.nodes.now c.args.links.now c.requires.sound.lines c.requires.sound.sound c.args.k c.args.word

pub split-its-requires-clause-throttles : goal.split-its-requires-clause-throttles
split-its-requires-clause-throttles g c = ap pass_places c.requires.passes.throttles ∙ unused_passes c.args.shared.now.throttles

pub center_with-requires-clause-throttles : goal.center_with-requires-clause-throttles
center_with-requires-clause-throttles g c = ap pass_places c.split-its.ensures.throttles ∙ unused_passes c.args.shared.now.throttles

pub returns-clause-served : goal.returns-clause-served
returns-clause-served g c =
    let place = λ (n : SeenNumberPass). n.place in
    ok_so c.center_with.result _ _
    (λ made is. subst (IsServedBy c.args.shared.now.numbers c.args.shared.now.throttles) (sym is) (record {
      numbers_place = ap place c.split-its.ensures.numbers ∙ ap place c.requires.passes.numbers;
      throttles_places = ap pass_places c.split-its.ensures.throttles ∙ unused_passes c.args.shared.now.throttles;
    })) c.center_with.ensures

pub center_with-requires-clause-begin : goal.center_with-requires-clause-begin
center_with-requires-clause-begin g c =
    let nodes = c.args.nodes.now in
    let k = c.args.k in
    let x : Node = c.index-nodes-k.result in
    let there : slice_get nodes k ≡ Some x = slice_get-get_or nodes k x c.requires.place ∙ ap Some (sym c.index-nodes-k.is) in
    let port = of_some (slice_get nodes k) (λ y. IsPortFor y c.args.port) x there c.requires.port in
    let home = c.args.home.now in
    (kept_can_begin nodes c.args.links.now k c.args.word (λ (r : RecordNow). is_at_home nodes home.centers home.center r.place) c.in_ok-records.records.items c.in_ok-records.ensures.bare
    c.new_records_can_begin.ensures c.requires.sound.lines c.requires.sound.sound x there (seen_port c.args.port) c.split-its.result.throttles c.split-its.result.numbers port.unused.made).0

pub center_with-requires-clause-owned : goal.center_with-requires-clause-owned
center_with-requires-clause-owned g c =
    let nodes = c.args.nodes.now in
    let k = c.args.k in
    let x : Node = c.index-nodes-k.result in
    let there : slice_get nodes k ≡ Some x = slice_get-get_or nodes k x c.requires.place ∙ ap Some (sym c.index-nodes-k.is) in
    let port = of_some (slice_get nodes k) (λ y. IsPortFor y c.args.port) x there c.requires.port in
    let home = c.args.home.now in
    let at = ap pass_places c.split-its.ensures.throttles ∙ unused_passes c.args.shared.now.throttles in
    subst (λ p. AllOwn p c.in_ok-records.records.items) at
    (kept_can_begin nodes c.args.links.now k c.args.word (λ (r : RecordNow). is_at_home nodes home.centers home.center r.place) c.in_ok-records.records.items c.in_ok-records.ensures.bare
    c.new_records_can_begin.ensures c.requires.sound.lines c.requires.sound.sound x there (seen_port c.args.port) c.split-its.result.throttles c.split-its.result.numbers port.unused.made).1

pub returns-clause-beginning : goal.returns-clause-beginning
returns-clause-beginning g c =
    let nodes = c.args.nodes.now in
    let k = c.args.k in
    let j = c.args.home.now.center in
    let x : Node = c.index-nodes-k.result in
    let there : slice_get nodes k ≡ Some x = slice_get-get_or nodes k x c.requires.place ∙ ap Some (sym c.index-nodes-k.is) in
    let port = of_some (slice_get nodes k) (λ y. IsPortFor y c.args.port) x there c.requires.port in
    let as_many = of_some (slice_get nodes k) (λ y. c.args.home.now.centers ≡ y.centers) x there c.requires.centers in
    let its = c.args.steps.items in
    ok_so c.center_with.result _ _
    (λ made is. if_some (slice_get nodes k) (λ y. (all : List StepTowards) → its ≡ steps_at_home nodes y.centers j all → IsBeginning nodes c.args.links.now all k j c.args.word y made) x there
    (λ all same. is_beginning nodes c.args.links.now its all k j c.args.word c.args.home.now.centers x c.args.port c.in_ok-records.records.items c.split-its.result.throttles c.split-its.result.numbers made
    as_many same port is c.in_ok-records.ensures.begun c.in_ok-records.ensures.bare c.in_ok-records.ensures.sides)) c.center_with.ensures
