-- What its centers have handed on is as it was.
use Rattle.m2_node.proofs.DispatchedNodes.{dispatched_still}
use Rattle.m2_node.proofs.node.RunNode.poll.Goals as goal

pub invariant_of-self : goal.invariant_of-self
invariant_of-self g c = (
  c.poll_each.ensures.served,
  dispatched_still c.self.inside.shared.now.throttles c.self.inside.centers.items c.poll_each.new.centers.items c.self.inside.dispatcher c.poll_each.ensures.polls c.self.invariant.1,
)
