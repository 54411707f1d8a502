-- By whether it is on.
use Rattle.std.proofs.Common.{◌≡◌, ◌∙◌, ◌++◌, Bool, true, List, Some, ap, sym, subst}
use Rattle.std.specs.Prelude.{IfSome, slice_get}
use Rattle.std.proofs.lemmas.Option.{slice_get-get_or}
use Rattle.m2_scenario.specs.declared.node.Node.{Node}
use Rattle.m2_script.proofs.SoFar.{of_some}
use Rattle.m2_node.specs.Begins.{AreDoorsOf, ArePortsForNode, IsOutIf}
use Rattle.m2_node.specs.Rooms.{HomeAt, homes_from, homes_if}
use Rattle.m2_node.proofs.OutPorts.{if_some, none_out}
use Rattle.m2_node.proofs.StepLists.{ok_always}
use Rattle.m2_node.proofs.WorkersBegin.{ok_so}
use Rattle.m2_node.proofs.beginning.ports_at.Goals as goal

pub ports_on-requires-clause-started : goal.ports_on-requires-clause-started
ports_on-requires-clause-started g c =
    let nodes = c.args.nodes.now in
    let k = c.args.k in
    let x : Node = c.index-nodes-k.result in
    let there : slice_get nodes k ≡ Some x = slice_get-get_or nodes k x c.requires.place ∙ ap Some (sym c.index-nodes-k.is) in
    if_some (slice_get nodes k) (λ y. y.started ≡ true) x there c.if-node.true

pub ports_on-requires-clause-doors : goal.ports_on-requires-clause-doors
ports_on-requires-clause-doors g c =
    let nodes = c.args.nodes.now in
    let k = c.args.k in
    let x : Node = c.index-nodes-k.result in
    let there : slice_get nodes k ≡ Some x = slice_get-get_or nodes k x c.requires.place ∙ ap Some (sym c.index-nodes-k.is) in
    let inbox = slice_get g.B.Inboxes.inboxes in
    let d = c.args.doors.now in
    let doors = of_some (slice_get nodes k) (λ y. (rest : List HomeAt) × AreDoorsOf inbox (homes_if y.started y.centers ++ rest) d) x there c.requires.doors in
    if_some (slice_get nodes k) (λ y. (rest : List HomeAt) × AreDoorsOf inbox (homes_from 0 y.centers y.centers ++ rest) d) x there
    (doors.0, subst (λ (b : Bool). AreDoorsOf inbox (homes_if b x.centers ++ doors.0) d) c.if-node.true doors.1)

pub returns-then-node-clause-doors : goal.returns-then-node-clause-doors
returns-then-node-clause-doors g c =
    let nodes = c.args.nodes.now in
    let k = c.args.k in
    let x : Node = c.index-nodes-k.result in
    let there : slice_get nodes k ≡ Some x = slice_get-get_or nodes k x c.requires.place ∙ ap Some (sym c.index-nodes-k.is) in
    let inbox = slice_get g.B.Inboxes.inboxes in
    let d = c.args.doors.now in
    let e = c.ports_on.new.doors in
    let on : Node → Type 0 = λ (y : Node). (rest : List HomeAt) → AreDoorsOf inbox (homes_from 0 y.centers y.centers ++ rest) d → AreDoorsOf inbox rest e in
    let if_on : Node → Type 0 = λ (y : Node). (rest : List HomeAt) → AreDoorsOf inbox (homes_if y.started y.centers ++ rest) d → AreDoorsOf inbox rest e in
    ok_so c.ports_on.result (λ ports. IfSome (slice_get nodes k) on) (λ ports. IfSome (slice_get nodes k) if_on)
    (λ ports all. if_some (slice_get nodes k) if_on x there
    (λ rest doors. of_some (slice_get nodes k) on x there all rest (subst (λ (b : Bool). AreDoorsOf inbox (homes_if b x.centers ++ rest) d) c.if-node.true doors))) c.ports_on.ensures.doors

pub returns-clause-ports : goal.returns-clause-ports
returns-clause-ports g c =
    let nodes = c.args.nodes.now in
    let k = c.args.k in
    let x : Node = c.index-nodes-k.result in
    let there : slice_get nodes k ≡ Some x = slice_get-get_or nodes k x c.requires.place ∙ ap Some (sym c.index-nodes-k.is) in
    ok_so c.ports_off.result _ _ (λ ports are. if_some (slice_get nodes k) (λ y. ArePortsForNode y ports.items) x there are) c.ports_off.ensures

pub returns-clause-out : goal.returns-clause-out
returns-clause-out g c =
    let nodes = c.args.nodes.now in
    let k = c.args.k in
    let x : Node = c.index-nodes-k.result in
    let there : slice_get nodes k ≡ Some x = slice_get-get_or nodes k x c.requires.place ∙ ap Some (sym c.index-nodes-k.is) in
    let f = g.F.Fabric.seen c.args.fabric.now in
    ok_always c.ports_off.result (IfSome (slice_get nodes k) (λ y. IsOutIf k y f f)) (if_some (slice_get nodes k) (λ y. IsOutIf k y f f) x there (none_out k x f c.if-node.false))

pub returns-clause-doors : goal.returns-clause-doors
returns-clause-doors g c =
    let nodes = c.args.nodes.now in
    let k = c.args.k in
    let x : Node = c.index-nodes-k.result in
    let there : slice_get nodes k ≡ Some x = slice_get-get_or nodes k x c.requires.place ∙ ap Some (sym c.index-nodes-k.is) in
    let inbox = slice_get g.B.Inboxes.inboxes in
    let d = c.args.doors.now in
    let same : Node → Type 0 = λ (y : Node). (rest : List HomeAt) → AreDoorsOf inbox (homes_if y.started y.centers ++ rest) d → AreDoorsOf inbox rest d in
    ok_always c.ports_off.result (IfSome (slice_get nodes k) same)
    (if_some (slice_get nodes k) same x there (λ rest doors. subst (λ (b : Bool). AreDoorsOf inbox (homes_if b x.centers ++ rest) d) c.if-node.false doors))
