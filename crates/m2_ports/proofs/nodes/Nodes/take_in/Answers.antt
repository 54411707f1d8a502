use Rattle.std.proofs.Common.{◌≡◌, List, None, refl, ap, ◌∙◌, sym}
use Rattle.std.specs.Prelude.{position}
use Rattle.m2_ports.specs.Nodes.{SeenNode, is_number, node_of}
use Rattle.m2_ports.proofs.Numbered.{PutsBack, gathers_alone, told_there}
use Rattle.m2_ports.proofs.nodes.Nodes.take_in.Goals as goal

pub unreachable-requires : goal.unreachable-requires
unreachable-requires g c =
    let nodes : List SeenNode = c.self.inside.nodes.items in
    let none : position (is_number c.args.node) nodes ≡ None = ap (position (is_number c.args.node)) (sym c.as_slice.ensures.value) ∙ sym c.in-None.ensures.place in
    absurd (told_there c.args.node nodes (node_of c.args.node nodes).out none refl (rw c.self.view_is c.requires))

pub returns : goal.returns
returns g c = λ f.
    let nodes : List SeenNode = c.self.inside.nodes.items in
    let y : SeenNode = c.index_mut.result.now in
    let x : SeenNode = c.take_in.new.self in
    let p : PutsBack c.args.node c.in-Some.place nodes y x = record {
      first = ap (position (is_number c.args.node)) (sym c.as_slice.ensures.value) ∙ sym c.in-Some.ensures.place;
      stood = c.index_mut.ensures.value;
      number = ap (λ (s : SeenNode). s.number) c.take_in.ensures;
    } in
    rw (← c.self.view_is) (gathers_alone c.args.node c.in-Some.place f nodes y x c.args.kept p c.take_in.ensures)
