use Rattle.std.proofs.Common.{List, is_some, ap, ◌∙◌, sym}
use Rattle.std.specs.Prelude.{position}
use Rattle.m2_ports.specs.Nodes.{SeenNode, at_of, is_number}
use Rattle.m2_ports.proofs.Numbered.{PutsBack, splits_alone}
use Rattle.m2_ports.proofs.Ports.{are_ports}
use Rattle.m2_ports.proofs.nodes.Nodes.hand_out_there.Goals as goal

pub returns-clause-ports : goal.returns-clause-ports
returns-clause-ports g c = are_ports (is_some c.hand_out.result) c.args.ports (at_of c.args.node c.args.self.now)

pub returns-clause-out : goal.returns-clause-out
returns-clause-out g c = λ f.
    let nodes : List SeenNode = c.self.inside.nodes.items in
    let y : SeenNode = c.index_mut.result.now in
    let x : SeenNode = c.hand_out.new.self in
    let p : PutsBack c.args.node c.in-Some.place nodes y x = record {
      first = ap (position (is_number c.args.node)) (sym c.as_slice.ensures.value) ∙ sym c.in-Some.ensures.place;
      stood = c.index_mut.ensures.value;
      number = ap (λ (s : SeenNode). s.number) c.hand_out.ensures;
    } in
    rw (← c.self.view_is) (splits_alone c.args.node c.in-Some.place f nodes y x (is_some c.hand_out.result) c.args.ports p c.hand_out.ensures)
