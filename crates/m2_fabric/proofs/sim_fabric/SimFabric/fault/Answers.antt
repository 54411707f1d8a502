use Rattle.m2_fabric.proofs.Flowing.{failing_stays_in_step}
use Rattle.m2_fabric.proofs.sim_fabric.SimFabric.fault.Goals as goal

pub returns-clause-in_step : goal.returns-clause-in_step
returns-clause-in_step g c =
    failing_stays_in_step c.fail.result c.args.self.now c.args.a c.in-Some.kept.id (g.H.Holder.seen c.args.h.now) (g.H.Holder.seen c.fail.new.h) c.requires.in_step c.fail.ensures.told
