-- One half more.
use Rattle.m2_history.proofs.BothRecords.{whole_more}
use Rattle.m2_history.proofs.records.all_whole.Goals as goal

pub loop-half-preserved : goal.loop-half-preserved
loop-half-preserved g c =
    whole_more c.args.loose.now c.loop-half.half-index c.half-item.result c.loop-half-test.true c.half-item.is c.loop-half.invariant c.trail.ensures.whole
