use Rattle.m2_fabric.proofs.Arriving.{each_arrives}
use Rattle.m2_fabric.proofs.sim_fabric.SimFabric.+enter_each.Goals as goal

pub returns-in_ok-enter-in-Some-clause-arrive : goal.returns-in_ok-enter-in-Some-clause-arrive
returns-in_ok-enter-in-Some-clause-arrive g t c =
    each_arrives c.enter_each.result c.args.node c.in-Some.id.now c.in-Some.rest.now c.args.ids.now c.args.self.now c.enter.new.self (g.H.Holder.seen c.args.h.now) (g.H.Holder.seen c.enter.new.h) (g.H.Holder.seen c.enter_each.new.h) c.in-Some.ensures.cases.0
    c.in_ok-enter-in-Some.ensures.fabric c.in_ok-enter-in-Some.ensures.arrive c.enter_each.ensures.arrive
