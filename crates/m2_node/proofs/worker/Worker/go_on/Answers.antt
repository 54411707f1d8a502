-- It was told to go on, and takes the turn.
use Rattle.m2_node.proofs.Watched.{turned}
use Rattle.m2_node.proofs.worker.Worker.go_on.Goals as goal

pub returns-clause-turns : goal.returns-clause-turns
returns-clause-turns g c =
    turned _ (g.C.Clock.may_give c.args.clock.now) c.args.self.now c.ask.new.self c.step.new.self c.in-Some.now c.in-Some.ensures.told c.in-Some.ensures.moment c.step.ensures.moment c.step.ensures.started
    c.step.ensures.numbers c.step.ensures.throttles c.step.ensures.watch c.step.ensures.steps
