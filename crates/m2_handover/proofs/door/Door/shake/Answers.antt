use Rattle.std.proofs.Common.{◌≡◌, ◌++◌, true, refl, sym, append-nil, ◌∙◌}
use Rattle.m2_trail.specs.declared.turn.HalfTurn.TheVariants as turn
use Rattle.m2_handover.specs.Door.{DoorNow, KeepsAll, ShakesFirst, over_by, asked_by, stays_by}
use Rattle.m2_handover.specs.Handed.{ComeAsked}
use Rattle.m2_handover.proofs.Shaking.{none_asked, one_asked, or_none, or_some, shakes_first}
use Rattle.m2_handover.proofs.Weights.{goes_where}
use Rattle.m2_handover.proofs.door.Door.shake.Goals as goal

pub returns-in-NoMemory-clause-sockets : goal.returns-in-NoMemory-clause-sockets
returns-in-NoMemory-clause-sockets g c =
    let old : DoorNow = record { halves = c.self.inside.halves.items; asked = c.self.inside.asked.items; over = c.self.inside.over.items; ways = c.self.inside.ways.items; busy = c.self.inside.busy } in
    let new : DoorNow = record old { halves = c.push_back_reserved-in-NoMemory.new.self.items; over = c.reserve.new.self.items } in
    let was = rw (← c.pop_front-2.view_is, c.in-Some.is) at c.pop_front.ensures.items in
    let halves : new.halves ≡ c.pop_front.new.self.items ++ stays_by turn.NoMemory c.advance.new.half = c.push_back_reserved-in-NoMemory.ensures.items in
    let asked : ComeAsked (asked_by turn.NoMemory c.advance.new.half) old.asked new.asked = none_asked old.asked in
    let over : new.over ≡ old.over ++ over_by turn.NoMemory c.advance.new.half = c.reserve.ensures.items ∙ sym (append-nil old.over) in
    let later = c.turns_leave_the_half.ensures turn.NoMemory _ _ c.in-NoMemory.ensures in
    let keeps : KeepsAll old new = goes_where turn.NoMemory c.in-Some.field-0.half c.advance.new.half c.pop_front.new.self.items old new was later.end.id halves asked over refl in
    rw (← c.self.view_is) keeps

pub returns-in-Asked-clause-shakes : goal.returns-in-Asked-clause-shakes
returns-in-Asked-clause-shakes g c =
    let old : DoorNow = record { halves = c.self.inside.halves.items; asked = c.self.inside.asked.items; over = c.self.inside.over.items; ways = c.self.inside.ways.items; busy = c.self.inside.busy } in
    let new : DoorNow = record old { halves = c.pop_front.new.self.items; asked = c.push_back_reserved.new.self.items; over = c.reserve.new.self.items } in
    let was = rw (← c.pop_front-2.view_is, c.in-Some.is) at c.pop_front.ensures.items in
    let halves : new.halves ≡ c.pop_front.new.self.items ++ stays_by turn.Asked c.advance.new.half = sym (append-nil c.pop_front.new.self.items) in
    let asked : ComeAsked (asked_by turn.Asked c.advance.new.half) old.asked new.asked = one_asked old.asked new.asked c.asked.result c.advance.new.half c.push_back_reserved.ensures.items c.asked.ensures in
    let over : new.over ≡ old.over ++ over_by turn.Asked c.advance.new.half = c.reserve.ensures.items ∙ sym (append-nil old.over) in
    let first : ShakesFirst old new = shakes_first turn.Asked c.in-Some.field-0.half c.advance.new.half c.pop_front.new.self.items old new c.in-Asked.ensures tt was halves asked over refl (or_none c.self.inside.busy) in
    rw (← c.self.view_is) first

pub returns-in-Asked-clause-sockets : goal.returns-in-Asked-clause-sockets
returns-in-Asked-clause-sockets g c =
    let old : DoorNow = record { halves = c.self.inside.halves.items; asked = c.self.inside.asked.items; over = c.self.inside.over.items; ways = c.self.inside.ways.items; busy = c.self.inside.busy } in
    let new : DoorNow = record old { halves = c.pop_front.new.self.items; asked = c.push_back_reserved.new.self.items; over = c.reserve.new.self.items } in
    let was = rw (← c.pop_front-2.view_is, c.in-Some.is) at c.pop_front.ensures.items in
    let halves : new.halves ≡ c.pop_front.new.self.items ++ stays_by turn.Asked c.advance.new.half = sym (append-nil c.pop_front.new.self.items) in
    let asked : ComeAsked (asked_by turn.Asked c.advance.new.half) old.asked new.asked = one_asked old.asked new.asked c.asked.result c.advance.new.half c.push_back_reserved.ensures.items c.asked.ensures in
    let over : new.over ≡ old.over ++ over_by turn.Asked c.advance.new.half = c.reserve.ensures.items ∙ sym (append-nil old.over) in
    let later = c.turns_leave_the_half.ensures turn.Asked _ _ c.in-Asked.ensures in
    let keeps : KeepsAll old new = goes_where turn.Asked c.in-Some.field-0.half c.advance.new.half c.pop_front.new.self.items old new was later.end.id halves asked over refl in
    rw (← c.self.view_is) keeps

pub returns-in-Over-clause-shakes : goal.returns-in-Over-clause-shakes
returns-in-Over-clause-shakes g c =
    let old : DoorNow = record { halves = c.self.inside.halves.items; asked = c.self.inside.asked.items; over = c.self.inside.over.items; ways = c.self.inside.ways.items; busy = c.self.inside.busy } in
    let new : DoorNow = record old { halves = c.pop_front.new.self.items; over = c.push_reserved.new.self.items } in
    let was = rw (← c.pop_front-2.view_is, c.in-Some.is) at c.pop_front.ensures.items in
    let halves : new.halves ≡ c.pop_front.new.self.items ++ stays_by turn.Over c.advance.new.half = sym (append-nil c.pop_front.new.self.items) in
    let asked : ComeAsked (asked_by turn.Over c.advance.new.half) old.asked new.asked = none_asked old.asked in
    let over : new.over ≡ old.over ++ over_by turn.Over c.advance.new.half = rw (c.push_reserved.ensures.items, c.reserve.ensures.items, c.close.ensures) refl in
    let first : ShakesFirst old new = shakes_first turn.Over c.in-Some.field-0.half c.advance.new.half c.pop_front.new.self.items old new c.in-Over.ensures tt was halves asked over refl (or_none c.self.inside.busy) in
    rw (← c.self.view_is) first

pub returns-in-Over-clause-sockets : goal.returns-in-Over-clause-sockets
returns-in-Over-clause-sockets g c =
    let old : DoorNow = record { halves = c.self.inside.halves.items; asked = c.self.inside.asked.items; over = c.self.inside.over.items; ways = c.self.inside.ways.items; busy = c.self.inside.busy } in
    let new : DoorNow = record old { halves = c.pop_front.new.self.items; over = c.push_reserved.new.self.items } in
    let was = rw (← c.pop_front-2.view_is, c.in-Some.is) at c.pop_front.ensures.items in
    let halves : new.halves ≡ c.pop_front.new.self.items ++ stays_by turn.Over c.advance.new.half = sym (append-nil c.pop_front.new.self.items) in
    let asked : ComeAsked (asked_by turn.Over c.advance.new.half) old.asked new.asked = none_asked old.asked in
    let over : new.over ≡ old.over ++ over_by turn.Over c.advance.new.half = rw (c.push_reserved.ensures.items, c.reserve.ensures.items, c.close.ensures) refl in
    let later = c.turns_leave_the_half.ensures turn.Over _ _ c.in-Over.ensures in
    let keeps : KeepsAll old new = goes_where turn.Over c.in-Some.field-0.half c.advance.new.half c.pop_front.new.self.items old new was later.end.id halves asked over refl in
    rw (← c.self.view_is) keeps

pub returns-in-Waits-clause-shakes : goal.returns-in-Waits-clause-shakes
returns-in-Waits-clause-shakes g c =
    let old : DoorNow = record { halves = c.self.inside.halves.items; asked = c.self.inside.asked.items; over = c.self.inside.over.items; ways = c.self.inside.ways.items; busy = c.self.inside.busy } in
    let new : DoorNow = record old { halves = c.push_back_reserved-in-Waits.new.self.items; over = c.reserve.new.self.items } in
    let was = rw (← c.pop_front-2.view_is, c.in-Some.is) at c.pop_front.ensures.items in
    let halves : new.halves ≡ c.pop_front.new.self.items ++ stays_by turn.Waits c.advance.new.half = c.push_back_reserved-in-Waits.ensures.items in
    let asked : ComeAsked (asked_by turn.Waits c.advance.new.half) old.asked new.asked = none_asked old.asked in
    let over : new.over ≡ old.over ++ over_by turn.Waits c.advance.new.half = c.reserve.ensures.items ∙ sym (append-nil old.over) in
    let first : ShakesFirst old new = shakes_first turn.Waits c.in-Some.field-0.half c.advance.new.half c.pop_front.new.self.items old new c.in-Waits.ensures tt was halves asked over refl (or_none c.self.inside.busy) in
    rw (← c.self.view_is) first

pub returns-in-Waits-clause-sockets : goal.returns-in-Waits-clause-sockets
returns-in-Waits-clause-sockets g c =
    let old : DoorNow = record { halves = c.self.inside.halves.items; asked = c.self.inside.asked.items; over = c.self.inside.over.items; ways = c.self.inside.ways.items; busy = c.self.inside.busy } in
    let new : DoorNow = record old { halves = c.push_back_reserved-in-Waits.new.self.items; over = c.reserve.new.self.items } in
    let was = rw (← c.pop_front-2.view_is, c.in-Some.is) at c.pop_front.ensures.items in
    let halves : new.halves ≡ c.pop_front.new.self.items ++ stays_by turn.Waits c.advance.new.half = c.push_back_reserved-in-Waits.ensures.items in
    let asked : ComeAsked (asked_by turn.Waits c.advance.new.half) old.asked new.asked = none_asked old.asked in
    let over : new.over ≡ old.over ++ over_by turn.Waits c.advance.new.half = c.reserve.ensures.items ∙ sym (append-nil old.over) in
    let later = c.turns_leave_the_half.ensures turn.Waits _ _ c.in-Waits.ensures in
    let keeps : KeepsAll old new = goes_where turn.Waits c.in-Some.field-0.half c.advance.new.half c.pop_front.new.self.items old new was later.end.id halves asked over refl in
    rw (← c.self.view_is) keeps

pub returns-in-Busy-clause-shakes : goal.returns-in-Busy-clause-shakes
returns-in-Busy-clause-shakes g c =
    let old : DoorNow = record { halves = c.self.inside.halves.items; asked = c.self.inside.asked.items; over = c.self.inside.over.items; ways = c.self.inside.ways.items; busy = c.self.inside.busy } in
    let new : DoorNow = record old { halves = c.push_back_reserved-in-Busy.new.self.items; over = c.reserve.new.self.items; busy = true } in
    let was = rw (← c.pop_front-2.view_is, c.in-Some.is) at c.pop_front.ensures.items in
    let halves : new.halves ≡ c.pop_front.new.self.items ++ stays_by turn.Busy c.advance.new.half = c.push_back_reserved-in-Busy.ensures.items in
    let asked : ComeAsked (asked_by turn.Busy c.advance.new.half) old.asked new.asked = none_asked old.asked in
    let over : new.over ≡ old.over ++ over_by turn.Busy c.advance.new.half = c.reserve.ensures.items ∙ sym (append-nil old.over) in
    let first : ShakesFirst old new = shakes_first turn.Busy c.in-Some.field-0.half c.advance.new.half c.pop_front.new.self.items old new c.in-Busy.ensures tt was halves asked over refl (or_some c.self.inside.busy) in
    rw (← c.self.view_is) first

pub returns-in-Busy-clause-sockets : goal.returns-in-Busy-clause-sockets
returns-in-Busy-clause-sockets g c =
    let old : DoorNow = record { halves = c.self.inside.halves.items; asked = c.self.inside.asked.items; over = c.self.inside.over.items; ways = c.self.inside.ways.items; busy = c.self.inside.busy } in
    let new : DoorNow = record old { halves = c.push_back_reserved-in-Busy.new.self.items; over = c.reserve.new.self.items; busy = true } in
    let was = rw (← c.pop_front-2.view_is, c.in-Some.is) at c.pop_front.ensures.items in
    let halves : new.halves ≡ c.pop_front.new.self.items ++ stays_by turn.Busy c.advance.new.half = c.push_back_reserved-in-Busy.ensures.items in
    let asked : ComeAsked (asked_by turn.Busy c.advance.new.half) old.asked new.asked = none_asked old.asked in
    let over : new.over ≡ old.over ++ over_by turn.Busy c.advance.new.half = c.reserve.ensures.items ∙ sym (append-nil old.over) in
    let later = c.turns_leave_the_half.ensures turn.Busy _ _ c.in-Busy.ensures in
    let keeps : KeepsAll old new = goes_where turn.Busy c.in-Some.field-0.half c.advance.new.half c.pop_front.new.self.items old new was later.end.id halves asked over refl in
    rw (← c.self.view_is) keeps
