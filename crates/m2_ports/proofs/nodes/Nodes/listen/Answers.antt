use Rattle.std.proofs.Common.{List, ap, ◌∙◌, sym}
use Rattle.std.specs.Prelude.{position}
use Rattle.m2_ports.specs.Nodes.{SeenNode, is_number}
use Rattle.m2_ports.proofs.Numbered.{PutsBack, listens_alone, own_put}
use Rattle.m2_ports.proofs.nodes.Nodes.listen.Goals as goal

pub returns-clause-listens : goal.returns-clause-listens
returns-clause-listens g c =
    let nodes : List SeenNode = c.self.inside.nodes.items in
    let y : SeenNode = c.index_mut.result.now in
    let x : SeenNode = c.listen.new.self in
    let p : PutsBack c.args.node c.in-Some.place nodes y x = record {
      first = ap (position (is_number c.args.node)) (sym c.as_slice.ensures.value) ∙ sym c.in-Some.ensures.place;
      stood = c.index_mut.ensures.value;
      number = ap (λ (s : SeenNode). s.number) c.listen.ensures;
    } in
    ap (λ (s : SeenNode). s.listens) (own_put c.args.node c.in-Some.place nodes y x p ∙ c.listen.ensures)

pub returns-clause-alone : goal.returns-clause-alone
returns-clause-alone g c = λ f f'.
    let nodes : List SeenNode = c.self.inside.nodes.items in
    let y : SeenNode = c.index_mut.result.now in
    let x : SeenNode = c.listen.new.self in
    let p : PutsBack c.args.node c.in-Some.place nodes y x = record {
      first = ap (position (is_number c.args.node)) (sym c.as_slice.ensures.value) ∙ sym c.in-Some.ensures.place;
      stood = c.index_mut.ensures.value;
      number = ap (λ (s : SeenNode). s.number) c.listen.ensures;
    } in
    rw (← c.self.view_is) (listens_alone c.args.node c.in-Some.place f f' nodes y x c.args.at.now p c.listen.ensures)
