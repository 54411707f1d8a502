use Rattle.std.proofs.Common.{Some, refl}
use Rattle.m2_handover.specs.Home.{HomeNow}
use Rattle.m2_handover.proofs.Doors.{lets_stay}
use Rattle.m2_handover.proofs.Homes.{home_lets_in}
use Rattle.m2_mailbox.specs.Passes.{looks_of, taken_of}
use Rattle.m2_handover.proofs.port.HomePort.let_in.Goals as goal

-- src/port.rt:189:27
pub invariant_of-self : goal.invariant_of-self
invariant_of-self g c =
    let old : HomeNow = record {
      inner = g.P.Port.seen c.self.inside.port;
      made = c.self.inside.made.items;
      room = c.self.inside.made.room;
      quiet = c.self.inside.quiet;
      taken = taken_of c.self.inside.pass;
      looks = looks_of c.self.inside.pass;
      next = c.self.inside.next;
      fresh = c.self.inside.fresh;
      door = c.self.inside.door;
    } in
    let new : HomeNow = record old { inner = g.P.Port.seen c.turn.new.port; door = Some c.turn.new.self } in
    home_lets_in old new c.in-Some.door c.turn.new.self c.self.invariant c.in-Some.is refl c.turn.ensures.sockets
    (lets_stay c.turn.result old.inner new.inner c.turn.ensures.lets) refl refl refl
