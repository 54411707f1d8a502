use Rattle.std.proofs.Common.{◌≡◌, List, Some, None, ap, ◌∙◌, sym}
use Rattle.std.specs.Prelude.{position}
use Rattle.m2_ports.specs.Nodes.{SeenNode, is_number}
use Rattle.m2_ports.proofs.Numbered.{node_at, none_there}
use Rattle.m2_ports.proofs.nodes.Nodes.gathered.Goals as goal

pub returns-in-Some : goal.returns-in-Some
returns-in-Some g c =
    let nodes : List SeenNode = c.self.inside.nodes.items in
    let y : SeenNode = c.index.result.now in
    let first : Some c.in-Some.place ≡ position (is_number c.args.node) nodes = c.in-Some.ensures.place ∙ ap (position (is_number c.args.node)) c.as_slice.ensures.value in
    rw (← c.self.view_is) (c.gathered.ensures ∙ ap (λ (s : SeenNode). s.gathered) (node_at c.args.node c.in-Some.place nodes y first c.index.ensures))

pub returns-in-None : goal.returns-in-None
returns-in-None g c =
    let nodes : List SeenNode = c.self.inside.nodes.items in
    let none : position (is_number c.args.node) nodes ≡ None = ap (position (is_number c.args.node)) (sym c.as_slice.ensures.value) ∙ sym c.in-None.ensures.place in
    rw (← c.self.view_is) (sym (ap (λ (s : SeenNode). s.gathered) (none_there c.args.node nodes none)))
