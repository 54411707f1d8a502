-- The message takes one place of the room that was promised.
use Rattle.m2_message.specs.Message.{priority_of}
use Rattle.m2_queues.specs.PriorityQueue.{rank_of}
use Rattle.m2_queues.proofs.Joining.{all-put_behind, map-put_behind}
use Rattle.m2_queues.specs.OutQueuesFields.{content_ranked, IsRanked}
use Rattle.m2_queues.proofs.out_queues.OutQueues.place.Goals as goal

pub invariant_of-self : goal.invariant_of-self
invariant_of-self c = record {
  numbers = rw c.push_reserved.ensures (record { sent = c.self.invariant.numbers.sent; given = c.self.invariant.numbers.given; fits = c.self.invariant.numbers.fits; unkept = c.self.invariant.numbers.unkept });
  ranked = rw c.push_reserved.ensures (all-put_behind rank_of IsRanked (record { rank = c.from-rank.result; item = c.args.message }) c.self.inside.messages.waiting c.from-rank.ensures c.self.invariant.ranked);
}

pub returns : goal.returns
returns c =
    let put = map-put_behind content_ranked rank_of priority_of (record { rank = c.from-rank.result; item = c.args.message }) c.self.inside.messages.waiting c.from-rank.ensures c.self.invariant.ranked in
    rw (← c.self.view_is, c.push_reserved.ensures, put)
