use Rattle.std.proofs.Common.{◌≡◌, ap, ◌∙◌, sym}
use Rattle.m2_ports.specs.Made.{Four, Made, four_of, next_socket}
use Rattle.m2_ports.proofs.Counts.{made_is_new, made_stays}
use Rattle.m2_ports.proofs.made.MadeSockets.enter.Goals as goal

pub invariant_of-self : goal.invariant_of-self
invariant_of-self c =
    let m = c.self.inside in
    let four : Four = c.four_of.result in
    let next : c.args.id ≡ next_socket four m.made.items =
    c.requires.next ∙ ap (λ (v : Made). next_socket (four_of c.args.id) v.sockets) (sym c.self.view_is) ∙ ap (λ (q : Four). next_socket q m.made.items) (sym c.four_of.ensures) in
    rw c.push_reserved.ensures (made_stays m.made.items four c.args.id m.counts.entries c.insert.new.self.entries c.self.invariant next c.in-Ok.ensures.updates.0)

pub returns-clause-first : goal.returns-clause-first
returns-clause-first c =
    let m = c.self.inside in
    let next : c.args.id ≡ next_socket (four_of c.args.id) m.made.items =
    c.requires.next ∙ ap (λ (v : Made). next_socket (four_of c.args.id) v.sockets) (sym c.self.view_is) in
    rw (← c.self.view_is) (made_is_new m.made.items (four_of c.args.id) c.args.id c.self.invariant.within next)
