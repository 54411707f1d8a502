-- Its center waits at its port; all else of the worker is as it was.
use Rattle.std.proofs.Common.{ap, subst, ◌∙◌}
use Rattle.m2_dispatch.specs.m2_shared.Gates.{pass_places}
use Rattle.m2_node.specs.Way.{PollsSo}
use Rattle.m2_node.specs.Working.{WorkerNow}
use Rattle.m2_node.proofs.worker.Worker.poll_when_given.Goals as goal

pub invariant_of-self-inside : goal.invariant_of-self-inside
invariant_of-self-inside g c = (ap (λ x. x.numbers.place) c.poll.ensures.stays ∙ c.self.inside.numbers, (ap (λ x. pass_places x.bytes) c.poll.ensures.stays ∙ c.self.inside.throttles, tt))

pub returns-clause-same : goal.returns-clause-same
returns-clause-same g c = ap {A = WorkerNow} (λ n. record n { center = c.poll.new.self }) c.self.view_is

pub returns-clause-polls : goal.returns-clause-polls
returns-clause-polls g c = subst (λ n. PollsSo n.center c.poll.new.self) c.self.view_is c.poll.ensures.stays
