use Rattle.std.proofs.Common.{IfSome, arith, subst}
use Rattle.std.proofs.lemmas.List.Elements.{All-more}
use Rattle.slab.specs.Slab.{get}
use Rattle.m2_turn.specs.Halves.{IsWholeHere}
use Rattle.m2_turn.proofs.Wholes.{all_of_them}
use Rattle.m2_turn.proofs.pending.each_is_whole.Goals as goal

pub places-preserved : goal.places-preserved
places-preserved g c =
    All-more (λ key. IfSome (get c.args.slots.now key) IsWholeHere) c.args.order.now.items c.places.place c.index-key.result.now
    (omega (arith, c.len-place-end.ensures, c.args.order.now.ok.0, c.places-test.true)) c.places.invariant
    (subst (λ key. IfSome (get c.args.slots.now key) IsWholeHere) c.index-key.ensures c.is_whole_at.ensures)

pub returns : goal.returns
returns g c =
    all_of_them (λ key. IfSome (get c.args.slots.now key) IsWholeHere) c.args.order.now.items c.places.place
    (omega (arith, c.len-place-end.ensures, c.args.order.now.ok.0, c.places-test.false))
    (omega (arith, c.len-place-end.ensures, c.args.order.now.ok.0, c.places.auto.place-end)) c.places.invariant
