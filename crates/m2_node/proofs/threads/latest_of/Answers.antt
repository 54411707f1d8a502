use Rattle.m2_node.proofs.Workers.{one_later}
use Rattle.m2_node.proofs.threads.latest_of.Goals as goal

pub workers-preserved : goal.workers-preserved
workers-preserved g c =
    let l = c.workers in
    one_later c.args.start c.args.workers.now l.k l.now c.max-now.result c.index-workers-k.result c.moment.result c.workers-test.true c.index-workers-k.is c.moment.ensures l.invariant c.max-now.ensures
