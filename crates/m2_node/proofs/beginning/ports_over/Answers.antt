-- One port more.
use Rattle.std.proofs.Common.{◌≡◌, ◌∙◌, true, [], List, Some, map, ap, sym, subst, arith}
use Rattle.std.specs.Prelude.{slice_get}
use Rattle.std.proofs.lemmas.List.{nil_from_length}
use Rattle.std.proofs.lemmas.Option.{slice_get-get_or}
use Rattle.m2_fabric.specs.CutPort.{Cutting}
use Rattle.m2_scenario.specs.declared.node.Node.{Node}
use Rattle.m2_script.proofs.SoFar.{of_some}
use Rattle.m2_node.specs.Begins.{AreDoorsAmid, AreDoorsOf, AreNewAt, ArePortsForNode, IsNewDoor}
use Rattle.m2_node.specs.Ports.{PortNow}
use Rattle.m2_node.specs.Rooms.{HomeAt, homes_from}
use Rattle.m2_node.proofs.DoorsBegin.{none_new_door}
use Rattle.m2_node.proofs.OutPorts.{all_given, all_there, if_some, next_doors, next_new, no_port_yet, one_port_more}
use Rattle.m2_node.proofs.beginning.ports_over.Goals as goal

pub centers-init : goal.centers-init
centers-init g c =
    let nodes = c.args.nodes.now in
    let k = c.args.k in
    let see = g.P.Port.seen in
    let x : Node = c.index-nodes-k.result in
    let there : slice_get nodes k ≡ Some x = slice_get-get_or nodes k x c.requires.place ∙ ap Some (sym c.index-nodes-k.is) in
    let new = of_some (slice_get nodes k) (λ y. AreNewAt y.at y.centers (map see c.args.ports.items)) x there c.requires.ports in
    let all : c.into_iter-port-iterator.result.rest.items ≡ c.args.ports.items = c.into_iter-port-iterator.ensures.into_iter_gives.0 ∙ c.into_vec-port-items.ensures in
    record {
      ports = no_port_yet (slice_get g.B.Inboxes.inboxes) x c.args.doors.now c.in_ok-all.all.items (map see c.into_iter-port-iterator.result.rest.items) c.in_ok-all.ensures.items
          (subst (λ ps. AreNewAt x.at x.centers (map see ps)) (sym all) new);
      door = c.requires.door;
    }

pub port-requires-clause-doors : goal.port-requires-clause-doors
port-requires-clause-doors g c =
    let nodes = c.args.nodes.now in
    let k = c.args.k in
    let l = c.centers in
    let see = g.P.Port.seen in
    let x : Node = c.index-nodes-k.result in
    let there : slice_get nodes k ≡ Some x = slice_get-get_or nodes k x c.requires.place ∙ ap Some (sym c.index-nodes-k.is) in
    let doors = of_some (slice_get nodes k) (λ y. (rest : List HomeAt) × AreDoorsAmid (slice_get g.B.Inboxes.inboxes) (homes_from 0 y.centers y.centers) rest c.args.doors.now) x there c.requires.doors in
    next_doors (slice_get g.B.Inboxes.inboxes) x c.args.doors.now l.all.items (see c.in-Some.port) (map see l.port-iterator.rest.items) (map see c.next.new.self.rest.items) l.doors
    (ap (map see) c.in-Some.ensures.steps.0) l.invariant.ports doors.0 doors.1

pub port-requires-clause-at : goal.port-requires-clause-at
port-requires-clause-at g c =
    let l = c.centers in
    let see = g.P.Port.seen in
    (next_new (slice_get g.B.Inboxes.inboxes) c.index-nodes-k.result c.args.doors.now l.all.items (see c.in-Some.port) (map see l.port-iterator.rest.items) (map see c.next.new.self.rest.items) l.doors
    (ap (map see) c.in-Some.ensures.steps.0) l.invariant.ports).at_address

pub port-requires-clause-unused : goal.port-requires-clause-unused
port-requires-clause-unused g c =
    let l = c.centers in
    let see = g.P.Port.seen in
    (next_new (slice_get g.B.Inboxes.inboxes) c.index-nodes-k.result c.args.doors.now l.all.items (see c.in-Some.port) (map see l.port-iterator.rest.items) (map see c.next.new.self.rest.items) l.doors
    (ap (map see) c.in-Some.ensures.steps.0) l.invariant.ports).unused

pub port-requires-clause-door : goal.port-requires-clause-door
port-requires-clause-door g c = subst IsNewDoor (sym c.take.ensures.value) c.centers.invariant.door

pub centers-preserved : goal.centers-preserved
centers-preserved g c =
    let nodes = c.args.nodes.now in
    let k = c.args.k in
    let l = c.centers in
    let see = g.P.Port.seen in
    let x : Node = c.index-nodes-k.result in
    let there : slice_get nodes k ≡ Some x = slice_get-get_or nodes k x c.requires.place ∙ ap Some (sym c.index-nodes-k.is) in
    let on = of_some (slice_get nodes k) (λ y. y.started ≡ true) x there c.requires.started in
    let put : PortNow → PortNow = λ p. p in
    record {
      ports = one_port_more (slice_get g.B.Inboxes.inboxes) x c.args.doors.now l.all.items c.push.new.self.items c.on.result (see c.in-Some.port) (map see l.port-iterator.rest.items)
          (map see c.next.new.self.rest.items) c.in_ok-home.home c.in_ok-cuts.cuts.items l.doors c.port.new.self (ap (map see) c.in-Some.ensures.steps.0) l.invariant.ports
          c.in_ok-push.ensures.items on (c.on.ensures ∙ ap (λ (z : Cutting). put (record { at = x.at; port = Some z })) c.new.ensures) c.in_ok-home.ensures.over c.in_ok-home.ensures.doors;
      door = subst IsNewDoor (sym c.take.ensures.after) none_new_door;
    }

pub returns-clause-ports : goal.returns-clause-ports
returns-clause-ports g c =
    let nodes = c.args.nodes.now in
    let k = c.args.k in
    let l = c.centers in
    let see = g.P.Port.seen in
    let x : Node = c.index-nodes-k.result in
    let there : slice_get nodes k ≡ Some x = slice_get-get_or nodes k x c.requires.place ∙ ap Some (sym c.index-nodes-k.is) in
    let rest = l.port-iterator.rest in
    let empty : rest.items ≡ [] = nil_from_length rest.items (let e = c.in-None.ensures.steps.0 in let n = rest.ok in omega (arith, e, n)) in
    if_some (slice_get nodes k) (λ y. ArePortsForNode y l.all.items) x there
    (all_there (slice_get g.B.Inboxes.inboxes) x c.args.doors.now l.all.items (map see rest.items) l.doors (ap (map see) empty) l.invariant.ports)

pub returns-clause-doors : goal.returns-clause-doors
returns-clause-doors g c =
    let nodes = c.args.nodes.now in
    let k = c.args.k in
    let l = c.centers in
    let see = g.P.Port.seen in
    let x : Node = c.index-nodes-k.result in
    let there : slice_get nodes k ≡ Some x = slice_get-get_or nodes k x c.requires.place ∙ ap Some (sym c.index-nodes-k.is) in
    let rest = l.port-iterator.rest in
    let empty : rest.items ≡ [] = nil_from_length rest.items (let e = c.in-None.ensures.steps.0 in let n = rest.ok in omega (arith, e, n)) in
    if_some (slice_get nodes k)
    (λ y. (others : List HomeAt) → AreDoorsAmid (slice_get g.B.Inboxes.inboxes) (homes_from 0 y.centers y.centers) others c.args.doors.now → AreDoorsOf (slice_get g.B.Inboxes.inboxes) others l.doors) x there
    (all_given (slice_get g.B.Inboxes.inboxes) x c.args.doors.now l.all.items (map see rest.items) l.doors (ap (map see) empty) l.invariant.ports)
