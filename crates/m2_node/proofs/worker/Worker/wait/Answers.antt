-- It was told to go on, and its thread waits.
use Rattle.m2_node.proofs.Watched.{waited}
use Rattle.m2_node.proofs.worker.Worker.wait.Goals as goal

pub returns-clause-waits : goal.returns-clause-waits
returns-clause-waits g c = waited c.args.self.now c.ask.new.self c.poll_when_given.new.self c.in-Some.ensures.told c.poll_when_given.ensures.same c.poll_when_given.ensures.polls
