-- What its threads and its halves give is given back.
use Rattle.std.proofs.Common.{◌≡◌, ◌∙◌, ap, arith, length, map, refl, subst, sym, take}
use Rattle.std.specs.Vec.Iter.{into_iter_items}
use Rattle.std.proofs.lemmas.List.{length-map}
use Rattle.m2_run.specs.Gathering.{GivenNow, Gives, GivesBack}
use Rattle.m2_run.specs.Rests.{EndedNow}
use Rattle.m2_run.proofs.Giving.{node_gives}
use Rattle.m2_run.proofs.gathering.gather_node.Goals as goal

pub returns-clause-gives_back : goal.returns-clause-gives_back
returns-clause-gives_back g c =
    let port = g.F.Port.Port.seen in
    let end = g.F.Port.End.End.seen in
    let cuts = c.args.cuts.now in
    let left = into_iter_items c.args.loose.now in
    let old = g.F.Fabric.seen c.args.fabric.now in
    let new = g.F.Fabric.seen c.give_back_if.new.fabric in
    let n : EndedNow = record { centers = c.ended.inside.centers.items; halves = c.ended.inside.halves } in
    let none : GivenNow = record { ports = map port c.new.result.items; ends = map end c.new-2.result.items; fast = c.new-3.result.items } in
    let given : GivenNow = record { ports = map port c.given.inside.ports.items; ends = map end c.given.inside.ends.items; fast = c.given.inside.fast.items } in
    let count : c.len-count.result ≡ length n.centers = omega (arith, c.len-count.ensures) in
    subst (λ (m : EndedNow). GivesBack cuts c.args.node.now.started c.args.place m (take m.halves left) old new) c.ended.view_is
    (node_gives cuts c.args.node.now.started c.args.place c.len-count.result n (take n.halves left) none given given.ports (map end c.give_halves.new.into.items) old new
    (ap (map port) c.new.ensures.items) (ap (map end) c.new-2.ensures.items)
    (subst (λ (gv : GivenNow). Gives cuts n.centers none gv) (sym c.given.view_is) c.in_ok-give_centers.ensures) c.in_ok-give_halves.ensures.given refl count
    (λ on. length-map c.given.inside.ports.items port ∙ c.in_ok-give_back_if.ensures.whole on) c.in_ok-give_back_if.ensures.gathers)
