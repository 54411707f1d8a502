-- The ports are over those that the fabric gives.
use Rattle.std.proofs.Common.{◌≡◌, ◌∙◌, ◌++◌, true, List, Some, map, ap, sym}
use Rattle.std.specs.Prelude.{IfSome, slice_get}
use Rattle.std.proofs.lemmas.Option.{slice_get-get_or}
use Rattle.m2_scenario.specs.declared.node.Node.{Node}
use Rattle.m2_script.proofs.SoFar.{of_some}
use Rattle.m2_node.specs.Begins.{AreDoorsAmid, AreDoorsOf, AreNewAt, IsOutIf}
use Rattle.m2_node.specs.Rooms.{HomeAt, homes_from}
use Rattle.m2_node.proofs.DoorsBegin.{new_door}
use Rattle.m2_node.proofs.OutPorts.{are_out, if_some, new_ports}
use Rattle.m2_node.proofs.StepLists.{ok_always, ok_then}
use Rattle.m2_node.proofs.beginning.ports_on.Goals as goal

pub ports_over-requires-clause-ports : goal.ports_over-requires-clause-ports
ports_over-requires-clause-ports g c =
    let nodes = c.args.nodes.now in
    let k = c.args.k in
    let x : Node = c.index-nodes-k.result in
    let there : slice_get nodes k ≡ Some x = slice_get-get_or nodes k x c.requires.place ∙ ap Some (sym c.index-nodes-k.is) in
    let on = of_some (slice_get nodes k) (λ y. y.started ≡ true) x there c.requires.started in
    let ports = map g.F.Port.Port.seen c.in_ok-ports.ports.items in
    if_some (slice_get nodes k) (λ y. AreNewAt y.at y.centers ports) x there
    (new_ports k x.at x.centers ports (g.F.Fabric.seen c.args.fabric.now) (g.F.Fabric.seen c.split.new.self) c.in_ok-ports.ensures.ports c.in_ok-ports.ensures.ok (c.requires.listening k x there on))

pub ports_over-requires-clause-doors : goal.ports_over-requires-clause-doors
ports_over-requires-clause-doors g c =
    let nodes = c.args.nodes.now in
    let k = c.args.k in
    let x : Node = c.index-nodes-k.result in
    let there : slice_get nodes k ≡ Some x = slice_get-get_or nodes k x c.requires.place ∙ ap Some (sym c.index-nodes-k.is) in
    let inbox = slice_get g.B.Inboxes.inboxes in
    let doors = of_some (slice_get nodes k) (λ y. (rest : List HomeAt) × AreDoorsOf inbox (homes_from 0 y.centers y.centers ++ rest) c.args.doors.now) x there c.requires.doors in
    if_some (slice_get nodes k) (λ y. (rest : List HomeAt) × AreDoorsAmid inbox (homes_from 0 y.centers y.centers) rest c.ways.new.self) x there
    (doors.0, c.in_ok-ways.ensures.doors doors.0 doors.1)

pub ports_over-requires-clause-door : goal.ports_over-requires-clause-door
ports_over-requires-clause-door g c = new_door c.in_ok-door.door c.in_ok-ways.ways.items c.in_ok-door.ensures c.in_ok-ways.ensures.new

pub ways-requires : goal.ways-requires
ways-requires g c =
    let nodes = c.args.nodes.now in
    let k = c.args.k in
    let x : Node = c.index-nodes-k.result in
    let there : slice_get nodes k ≡ Some x = slice_get-get_or nodes k x c.requires.place ∙ ap Some (sym c.index-nodes-k.is) in
    of_some (slice_get nodes k) (λ y. (rest : List HomeAt) × AreDoorsOf (slice_get g.B.Inboxes.inboxes) (homes_from 0 y.centers y.centers ++ rest) c.args.doors.now) x there c.requires.doors

pub returns-clause-out : goal.returns-clause-out
returns-clause-out g c =
    let nodes = c.args.nodes.now in
    let k = c.args.k in
    let x : Node = c.index-nodes-k.result in
    let there : slice_get nodes k ≡ Some x = slice_get-get_or nodes k x c.requires.place ∙ ap Some (sym c.index-nodes-k.is) in
    let old = g.F.Fabric.seen c.args.fabric.now in
    let new = g.F.Fabric.seen c.split.new.self in
    ok_always c.ports_over.result (IfSome (slice_get nodes k) (λ y. IsOutIf k y old new))
    (if_some (slice_get nodes k) (λ y. IsOutIf k y old new) x there (are_out k x (map g.F.Port.Port.seen c.in_ok-ports.ports.items) old new c.in_ok-ports.ensures.ports c.in_ok-ports.ensures.ok))

pub returns-clause-doors : goal.returns-clause-doors
returns-clause-doors g c =
    let nodes = c.args.nodes.now in
    let k = c.args.k in
    let x : Node = c.index-nodes-k.result in
    let there : slice_get nodes k ≡ Some x = slice_get-get_or nodes k x c.requires.place ∙ ap Some (sym c.index-nodes-k.is) in
    let inbox = slice_get g.B.Inboxes.inboxes in
    let first = c.args.doors.now in
    let mid = c.ways.new.self in
    let new = c.ports_over.new.doors in
    let given : Node → Type 0 = λ (y : Node). (rest : List HomeAt) → AreDoorsOf inbox (homes_from 0 y.centers y.centers ++ rest) first → AreDoorsOf inbox rest new in
    let made : Node → Type 0 = λ (y : Node). (rest : List HomeAt) → AreDoorsAmid inbox (homes_from 0 y.centers y.centers) rest mid → AreDoorsOf inbox rest new in
    ok_then c.ports_over.result (IfSome (slice_get nodes k) made) (IfSome (slice_get nodes k) given)
    (λ all. if_some (slice_get nodes k) given x there (λ rest doors. of_some (slice_get nodes k) made x there all rest (c.in_ok-ways.ensures.doors rest doors))) c.ports_over.ensures.doors
