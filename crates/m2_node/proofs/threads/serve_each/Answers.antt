-- Each dispatcher serves as its thread says.
use Rattle.std.proofs.Common.{get_or, subst}
use Rattle.m2_node.specs.Dispatching.{RunsServing, Serves, ServingNow}
use Rattle.m2_node.proofs.Workers.{one_by_one}
use Rattle.m2_node.proofs.threads.serve_each.Goals as goal

pub returns-clause-serves : goal.returns-clause-serves
returns-clause-serves g c =
    one_by_one Serves c.args.servers.now c.for_each_mut.new.s c.for_each_mut.auto.s
    (λ i d less.
    let at = (c.for_each_mut.ensures i d less).1 in
    subst (λ (v : ServingNow). Serves v (get_or c.for_each_mut.new.s i d)) at.argument_is (subst (λ (v : ServingNow). Serves at.argument.now v) at.left at.call.1.0))

pub returns-clause-runs : goal.returns-clause-runs
returns-clause-runs g c =
    let runs = RunsServing c.args.mails.now in
    one_by_one runs c.args.servers.now c.for_each_mut.new.s c.for_each_mut.auto.s
    (λ i d less.
    let at = (c.for_each_mut.ensures i d less).1 in
    subst (λ (v : ServingNow). runs v (get_or c.for_each_mut.new.s i d)) at.argument_is (subst (λ (v : ServingNow). runs at.argument.now v) at.left at.call.1.1))
