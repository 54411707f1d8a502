-- The lane's first stays where it is; that of the others goes to the back of the front, behind what is kept of the lane.
use Rattle.std.proofs.Common.{◌≡◌, ◌+◌, ◌<◌, true, false, refl, sym, ◌∙◌, length, take, drop, eqb, arith}
use Rattle.std.proofs.lemmas.List.{append-nil, append_assoc, length-drop}
use Rattle.std.proofs.lemmas.Bool.Decides.{nat_tests}
use Rattle.m2_queues.proofs.Lanes.{is_lane_next, other_next}
use Rattle.m2_queues.proofs.Kept.{lane_kept, other_item}
use Rattle.m2_queues.proofs.kept_line.KeptLine.keep_first.Goals as goal

pub returns-then-is_lane_next-clause-kept : goal.returns-then-is_lane_next-clause-kept
returns-then-is_lane_next-clause-kept c =
    let w = c.self.inside in
    let waits = drop w.taken w.lane.items in
    let empty : eqb c.len.result w.taken ≡ eqb (length waits) 0 = grind (arith, nat_tests, c.len.ensures, w.lane.ok, length-drop w.taken w.lane.items) in
    let next : is_lane_next w.lane_rank waits w.others.items ≡ true = rw (← empty) (sym c.is_lane_next.ensures ∙ c.if-is_lane_next.true) in
    let some : 0 < length waits + length w.others.items = omega (arith, c.self.invariant.counted, c.self.invariant.taken, w.lane.ok, length-drop w.taken w.lane.items, c.if-self-eq0.false) in
    let kept = lane_kept w.lane_rank w.taken w.lane.items w.others.items next some in
    rw (← c.self.view_is, kept.kept, kept.waiting, append_assoc w.front.items (take w.taken w.lane.items)) refl

pub returns-clause-kept : goal.returns-clause-kept
returns-clause-kept c =
    let w = c.self.inside in
    let waits = drop w.taken w.lane.items in
    let empty : eqb c.len.result w.taken ≡ eqb (length waits) 0 = grind (arith, nat_tests, c.len.ensures, w.lane.ok, length-drop w.taken w.lane.items) in
    let next : is_lane_next w.lane_rank waits w.others.items ≡ false = rw (← empty) (sym c.is_lane_next.ensures ∙ c.if-is_lane_next.false) in
    let item = other_item w.lane_rank c.in-Some.message waits w.others.items c.self.invariant.apart next (sym c.pop.ensures.item ∙ c.in-Some.is) in
    let rest = other_next w.lane_rank waits w.others.items c.self.invariant.apart next in
    rw (← c.self.view_is, c.push_back_reserved.ensures.items, c.move_taken.ensures.front, c.move_taken.ensures.lane, c.pop.ensures.rest, append-nil, item, rest)
