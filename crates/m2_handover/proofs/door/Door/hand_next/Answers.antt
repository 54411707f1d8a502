use Rattle.std.proofs.Common.{refl}
use Rattle.m2_handover.specs.Door.{DoorNow, KeepsAll}
use Rattle.m2_handover.proofs.Weights.{comes_back, is_handed}
use Rattle.m2_handover.proofs.door.Door.hand_next.Goals as goal

-- src/door.rt:216:5
pub returns-in-None-clause-sockets : goal.returns-in-None-clause-sockets
returns-in-None-clause-sockets g c =
    let old : DoorNow = record { halves = c.self.inside.halves.items; asked = c.self.inside.asked.items; over = c.self.inside.over.items; ways = c.self.inside.ways.items; busy = c.self.inside.busy } in
    let new : DoorNow = record old { asked = c.pop_front.new.self.items; ways = c.hand.new.ways.items } in
    let keeps : KeepsAll old new = is_handed old new c.in-Some.handed c.in-Some.ensures.items c.in-None.ensures refl refl in
    rw (← c.self.view_is) keeps

-- src/door.rt:216:5
pub returns-in-Some-hand-clause-sockets : goal.returns-in-Some-hand-clause-sockets
returns-in-Some-hand-clause-sockets g c =
    let old : DoorNow = record { halves = c.self.inside.halves.items; asked = c.self.inside.asked.items; over = c.self.inside.over.items; ways = c.self.inside.ways.items; busy = c.self.inside.busy } in
    let new : DoorNow = record old { asked = c.push_back_reserved.new.self.items; ways = c.hand.new.ways.items } in
    let keeps : KeepsAll old new = comes_back old new c.in-Some.handed c.in-Some-hand.left c.pop_front.new.self.items c.in-Some.ensures.items c.push_back_reserved.ensures.items
    c.in-Some-hand.ensures refl refl in
    rw (← c.self.view_is) keeps
