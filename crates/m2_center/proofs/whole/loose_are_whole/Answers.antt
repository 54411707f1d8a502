use Rattle.std.proofs.Common.{subst}
use Rattle.std.proofs.lemmas.List.Elements.{All-more, recursion_from_All}
use Rattle.m2_turn.specs.Halves.{IsWhole}
use Rattle.m2_turn.proofs.Wholes.{all_of_them}
use Rattle.m2_center.proofs.whole.loose_are_whole.Goals as goal

pub halves-preserved : goal.halves-preserved
halves-preserved g c = All-more IsWhole c.args.loose.now c.halves.half-index c.half-item.result c.halves-test.true c.halves.invariant (subst IsWhole c.half-item.is c.trail-trail.ensures.whole)

pub returns : goal.returns
returns g c = recursion_from_All IsWhole c.args.loose.now (all_of_them IsWhole c.args.loose.now c.halves.half-index c.halves-test.false c.halves.auto.half-index-end c.halves.invariant)
