-- One half more.
use Rattle.std.proofs.Common.{map, refl}
use Rattle.m2_history.specs.Ends.{end_now}
use Rattle.m2_history.specs.Woven.{loose_end, loose_ends}
use Rattle.m2_history.proofs.Gathering.{one_more}
use Rattle.m2_history.proofs.weaving.add_loose_ends.Goals as goal

pub loop-half-preserved : goal.loop-half-preserved
loop-half-preserved g c =
    one_more (loose_ends c.args.known.now.a c.args.known.now.b) (loose_end c.args.known.now.a c.args.known.now.b) (λ x xs. refl) c.args.loose.now c.loop-half.half-index c.half-item.result
    (map end_now c.loop-half.ends.items) (map end_now c.add_loose_end.new.ends.items) _ c.loop-half-test.true c.half-item.is c.loop-half.invariant c.in_ok-add_loose_end.ensures
