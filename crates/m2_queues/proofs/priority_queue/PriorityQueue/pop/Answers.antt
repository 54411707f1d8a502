-- Where the lane's first item doesn't come out next, the first of the others does.
use Rattle.std.proofs.Common.{◌≡◌, false, length, eqb, sym, ◌∙◌, arith}
use Rattle.std.proofs.lemmas.Bool.Decides.{nat_tests}
use Rattle.m2_queues.proofs.Lanes.{is_lane_next, other_next}
use Rattle.m2_queues.proofs.priority_queue.PriorityQueue.pop.Goals as goal

pub returns-then-not-is_lane_next-clause-rest : goal.returns-then-not-is_lane_next-clause-rest
returns-then-not-is_lane_next-clause-rest g c =
    let w = c.self.inside in
    let empty : c.is_empty.result ≡ eqb (length w.lane.items) 0 = grind (arith, nat_tests, c.is_empty.ensures, w.lane.ok) in
    let next : is_lane_next w.lane_rank w.lane.items w.others.items ≡ false = rw (← empty) (sym c.is_lane_next.ensures ∙ c.if-not-is_lane_next.true) in
    let rest = other_next w.lane_rank w.lane.items w.others.items c.self.invariant.apart next in
    rw (← c.self.view_is, c.pop.ensures.rest, rest)
