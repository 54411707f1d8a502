-- One came: it is the last half, or over.
use Rattle.std.proofs.Common.{◌≡◌, true, length, refl, arith}
use Rattle.std.proofs.lemmas.Grind.{common_steps}
use Rattle.m2_handover.specs.Door.{DoorNow, HaveCome}
use Rattle.m2_handover.proofs.Shaking.{has_come}
use Rattle.m2_handover.proofs.door.Door.accept.Goals as goal

pub returns-in-Made-clause-came : goal.returns-in-Made-clause-came
returns-in-Made-clause-came g c =
    let old : DoorNow = record { halves = c.self.inside.halves.items; asked = c.self.inside.asked.items; over = c.self.inside.over.items; ways = c.self.inside.ways.items; busy = c.self.inside.busy } in
    let new : DoorNow = record old { halves = c.stand.new.halves.items; over = c.stand.new.over.items; busy = true } in
    let many : c.len.result ≡ length old.asked = grind (arith, common_steps, c.len.ensures) in
    let came : HaveCome old new = has_come old new c.reserve.new.self.items c.reserve.ensures.items c.stand.ensures.before c.stand.ensures.over refl refl c.len.result many c.stand.ensures.spared refl in
    rw (← c.self.view_is) came
