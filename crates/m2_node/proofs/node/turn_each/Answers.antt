-- One center more has taken its turn, and what it has handed on is dispatched.
use Rattle.std.proofs.Common.{◌≡◌, ◌<◌, Some, length, ap, subst, sym, ◌∙◌, arith}
use Rattle.std.specs.Prelude.{slice_get}
use Rattle.std.proofs.lemmas.Option.{slice_get-get_or}
use Rattle.m2_dispatch.specs.Parcel.{AllOwned}
use Rattle.m2_dispatch.specs.m2_shared.Gates.{places}
use Rattle.m2_dispatch.specs.m2_shared.declared.throttles.Throttles.{Throttles}
use Rattle.m2_node.specs.Nodes.{IsServedBy}
use Rattle.m2_node.specs.Way.{TurnsSo}
use Rattle.m2_node.specs.declared.end.RunEnd.{RunEnd}
use Rattle.m2_node.proofs.Each.{all_set, one_done}
use Rattle.m2_node.proofs.Turned.{dispatched_on, owned_on}
use Rattle.m2_node.proofs.node.turn_each.Goals as goal

pub dispatch_all-requires : goal.dispatch_all-requires
dispatch_all-requires g c =
    let l = c.centers in
    subst (λ (t : Throttles). AllOwned (places t) c.turn_center-turn.new.into.items) (sym l.invariant.dispatched.at)
    (owned_on (places c.args.shared.now.throttles) _ _ l.parcels.items c.turn_center-turn.new.into.items l.invariant.none c.turn_center-turn.ensures.on)

pub centers-preserved : goal.centers-preserved
centers-preserved g c =
    let l = c.centers in
    let s = c.args.shared.now in
    let x = c.index_mut.result.now in
    let y = c.turn_center-turn.new.center in
    let less : l.j < length l.centers.items = omega (arith, c.centers-test.true, c.len-j-end.ensures, l.invariant.done.count, c.args.centers.now.ok.0) in
    let here : slice_get l.centers.items l.j ≡ Some x = slice_get-get_or l.centers.items l.j x less ∙ ap Some (sym c.index_mut.ensures.value) in
    record {
      done = one_done (TurnsSo (RunEnd g.row.P-End.Denot) c.args.now s.numbers s.throttles) l.j c.args.centers.now.items l.centers.items x y less c.index_mut.ensures.value c.turn_center-turn.ensures.turns
          l.invariant.done;
      served = all_set (IsServedBy s.numbers s.throttles) l.centers.items l.j x y c.index_mut.ensures.value less
          (λ its. record { numbers_place = c.turn_center-turn.ensures.numbers ∙ its.numbers_place; throttles_places = c.turn_center-turn.ensures.throttles ∙ its.throttles_places }) l.invariant.served;
      dispatched = dispatched_on s.throttles l.centers.items l.j x y l.dispatcher c.dispatch_all.new.to l.parcels.items c.turn_center-turn.new.into.items here l.invariant.none c.turn_center-turn.ensures.on
          c.dispatch_all.ensures.dispatched l.invariant.dispatched;
      none = c.dispatch_all.ensures.none;
    }
