-- One half more.
use Rattle.std.proofs.Common.{map, refl}
use Rattle.m2_history.specs.Woven.{loose_strand, loose_strands}
use Rattle.m2_weave.specs.Strands.{strand_now}
use Rattle.m2_history.proofs.Gathering.{one_more}
use Rattle.m2_history.proofs.weaving.add_loose_strands.Goals as goal

pub loop-half-preserved : goal.loop-half-preserved
loop-half-preserved g c =
    one_more (loose_strands c.args.known.now.a c.args.known.now.b) (loose_strand c.args.known.now.a c.args.known.now.b) (λ x xs. refl) c.args.loose.now c.loop-half.half-index c.half-item.result
    (map strand_now c.loop-half.strands.items) (map strand_now c.add_loose_strand.new.strands.items) _ c.loop-half-test.true c.half-item.is c.loop-half.invariant c.in_ok-add_loose_strand.ensures
