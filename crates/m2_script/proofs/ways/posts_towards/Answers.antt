-- The posts of one record more.
use Rattle.m2_script.proofs.Steps.{sum_next, sum_past}
use Rattle.std.proofs.Common.{sum_by}
use Rattle.m2_script.specs.Ways.{posts_to}
use Rattle.m2_script.proofs.ways.posts_towards.Goals as goal

pub loop-side-preserved : goal.loop-side-preserved
loop-side-preserved g c =
    let l = c.loop-side in
    let all = c.args.records.now in
    sum_next (posts_to c.args.to) all l.side-index c.side-item.result l.posts c.posts_to.result c.in_ok-posts.posts (sum_by (posts_to c.args.to) all) c.loop-side-test.true c.side-item.is
    c.in_ok-posts.ensures c.posts_to.ensures l.invariant

pub returns : goal.returns
returns g c =
    let all = c.args.records.now in
    sum_past (posts_to c.args.to) all c.loop-side.side-index c.loop-side.posts (sum_by (posts_to c.args.to) all) c.loop-side-test.false c.loop-side.invariant
