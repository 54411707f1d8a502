-- One half more.
use Rattle.m2_node.specs.m2_links_go_on.m2_history.Link.{IsWholeHalf}
use Rattle.m2_node.specs.m2_links_go_on.Left.{IsSeen}
use Rattle.m2_node.proofs.Places.{all_more}
use Rattle.m2_run.proofs.ranges.halves_are_of_types.Goals as goal

pub halves-preserved : goal.halves-preserved
halves-preserved g c =
    let l = c.halves in
    let is = c.half_is_of_types.ensures in (
      all_more IsWholeHalf c.args.loose.now l.half-index c.half-item.result c.halves-test.true c.half-item.is is.whole l.invariant.0,
      all_more IsSeen c.args.loose.now l.half-index c.half-item.result c.halves-test.true c.half-item.is is.seen l.invariant.1,
    )
