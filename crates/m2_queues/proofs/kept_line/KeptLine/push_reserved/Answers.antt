-- A message joins the lane, or the others: either way it joins those that wait behind its rank.
use Rattle.std.proofs.Common.{◌≡◌, ◌≢◌, ◌+◌, ◌<◌, ◌≤◌, [], ◌∷◌, length, drop, sym, ap, ◌∙◌, arith}
use Rattle.std.proofs.lemmas.List.{length-drop, drop-append-le, take-append-le}
use Rattle.std.proofs.lemmas.Bool.Decides.{nat_tests}
use Rattle.m2_queues.specs.PriorityQueue.{rank_of, joined}
use Rattle.m2_queues.specs.PriorityQueueFields.{items_among, IsOfAnother}
use Rattle.m2_queues.proofs.Joining.{length-put_behind, all-put_behind}
use Rattle.m2_queues.proofs.Lanes.{IsForAnother, another_rank, joins_lane, joins_others}
use Rattle.m2_queues.proofs.kept_line.KeptLine.push_reserved.Goals as goal

pub invariant_of-self : goal.invariant_of-self
invariant_of-self c =
    let w = c.self.inside in
    let waits = drop w.taken w.lane.items in
    let rank = c.lane_rank_for-self-inside.result in
    let within : w.taken ≤ length w.lane.items = omega (arith, c.self.invariant.taken, w.lane.ok) in
    let counted : w.len ≡ length waits + length w.others.items = omega (arith, c.self.invariant.counted, w.lane.ok, within, length-drop w.taken w.lane.items) in
    let moved : IsForAnother w.lane_rank rank waits w.others.items =
    rw c.lane_rank_for-self-inside.ensures (another_rank w.len w.lane_rank c.args.rank waits w.others.items counted c.self.invariant.apart) in
    let roomy : 0 < w.room = rw (← c.self.view_is) at c.requires in
    let test = c.if-rank-self.true in
    let other : c.args.rank ≢ rank = grind (arith, nat_tests) in
    record {
      taken = c.self.invariant.taken;
      apart = rw c.push_reserved.ensures (all-put_behind rank_of (IsOfAnother rank) (record { rank = c.args.rank; item = c.args.message }) w.others.items other moved.apart);
      counted = rw (c.push_reserved.ensures, length-put_behind) (omega (arith, c.self.invariant.counted));
      lane_room = omega (arith, c.self.invariant.lane_room);
      others_room = rw c.push_reserved.ensures (omega (arith, c.self.invariant.others_room));
      front_room = omega (arith, c.self.invariant.front_room, roomy);
    }

pub returns-then-rank-self : goal.returns-then-rank-self
returns-then-rank-self c =
    let w = c.self.inside in
    let waits = drop w.taken w.lane.items in
    let rank = c.lane_rank_for-self-inside.result in
    let within : w.taken ≤ length w.lane.items = omega (arith, c.self.invariant.taken, w.lane.ok) in
    let counted : w.len ≡ length waits + length w.others.items = omega (arith, c.self.invariant.counted, w.lane.ok, within, length-drop w.taken w.lane.items) in
    let moved : IsForAnother w.lane_rank rank waits w.others.items =
    rw c.lane_rank_for-self-inside.ensures (another_rank w.len w.lane_rank c.args.rank waits w.others.items counted c.self.invariant.apart) in
    let test = c.if-rank-self.true in
    let other : c.args.rank ≢ rank = grind (arith, nat_tests) in
    let joins = sym (joins_others rank (record { rank = c.args.rank; item = c.args.message }) waits w.others.items other moved.apart) ∙ ap (joined c.args.rank c.args.message) moved.items in
    rw (← c.self.view_is, c.push_reserved.ensures, joins)

pub returns : goal.returns
returns c =
    let w = c.self.inside in
    let waits = drop w.taken w.lane.items in
    let rank = c.lane_rank_for-self-inside.result in
    let within : w.taken ≤ length w.lane.items = omega (arith, c.self.invariant.taken, w.lane.ok) in
    let counted : w.len ≡ length waits + length w.others.items = omega (arith, c.self.invariant.counted, w.lane.ok, within, length-drop w.taken w.lane.items) in
    let moved : IsForAnother w.lane_rank rank waits w.others.items =
    rw c.lane_rank_for-self-inside.ensures (another_rank w.len w.lane_rank c.args.rank waits w.others.items counted c.self.invariant.apart) in
    let test = c.if-rank-self.false in
    let same : c.args.rank ≡ rank = grind (arith, nat_tests) in
    let split = drop-append-le w.taken w.lane.items (c.args.message ∷ []) within in
    let keeps = take-append-le w.taken w.lane.items (c.args.message ∷ []) within in
    let joins = sym (joins_lane rank c.args.message waits w.others.items moved.apart) ∙ ap (joined rank c.args.message) moved.items
    ∙ ap (λ n. joined n c.args.message (items_among w.lane_rank waits w.others.items)) (sym same) in
    rw (← c.self.view_is, c.push_back_reserved.ensures.items, split, keeps, joins)
