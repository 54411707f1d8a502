use Rattle.std.proofs.Common.{◌≡◌, List, None, ap, ◌∙◌, sym}
use Rattle.std.specs.Prelude.{position}
use Rattle.m2_ports.specs.Nodes.{SeenNode, is_number}
use Rattle.m2_ports.proofs.Numbered.{node_last, there_last}
use Rattle.m2_ports.proofs.nodes.Nodes.enter.Goals as goal

pub returns-clause-there : goal.returns-clause-there
returns-clause-there g c =
    let nodes : List SeenNode = c.self.inside.nodes.items in
    let none : position (is_number c.args.node) nodes ≡ None = ap (position (is_number c.args.node)) (sym c.as_slice.ensures.value) ∙ sym c.in_default.ensures.place in
    rw (c.in_ok-push.ensures.items, c.new.ensures) (there_last c.args.node nodes none)

pub returns-clause-same : goal.returns-clause-same
returns-clause-same g c = λ n. rw (c.in_ok-push.ensures.items, c.new.ensures, ← c.self.view_is) (node_last n c.args.node c.self.inside.nodes.items)
