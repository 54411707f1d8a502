-- By the centers of the node that stands there.
use Rattle.m2_run.proofs.Stillness.{idle_there}
use Rattle.m2_run.proofs.still.is_idle_at.Goals as goal

pub returns : goal.returns
returns g c =
    idle_there c.args.now c.args.nodes.now c.args.all.now c.args.k c.index-all-k.result c.centers.result.now c.all_idle.result c.index-all-k.is c.centers.ensures c.all_idle.ensures
