-- One record more.
use Rattle.m2_run.specs.Types.{IsRanged}
use Rattle.m2_node.proofs.Places.{all_more}
use Rattle.m2_run.proofs.ranges.are_ranged.Goals as goal

pub records-preserved : goal.records-preserved
records-preserved g c = all_more IsRanged c.args.records.now c.records.side-index c.side-item.result c.records-test.true c.side-item.is c.is_ranged.ensures c.records.invariant
