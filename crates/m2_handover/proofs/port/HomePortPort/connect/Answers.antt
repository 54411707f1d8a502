use Rattle.std.proofs.Common.{◌≡◌, ◌==◌, ◌&&◌, false, [], ◌∷◌, ◌++◌, refl, sym, ap, ◌∙◌}
use Rattle.m2_fabric.specs.Port.{SeenPort}
use Rattle.m2_handover.specs.Home.{HomeNow}
use Rattle.m2_mailbox.specs.Passes.{looks_of, taken_of}
use Rattle.m2_handover.proofs.Homes.{home_opens, home_same, new_here}
use Rattle.m2_handover.proofs.port.HomePortPort.connect.Goals as goal

-- src/port.rt:281:17
pub invariant_of-self-in-Made : goal.invariant_of-self-in-Made
invariant_of-self-in-Made g c =
    let old : HomeNow = record {
      inner = g.P.Port.seen c.self.inside.port;
      made = c.self.inside.made.items;
      room = c.self.inside.made.room;
      quiet = c.self.inside.quiet;
      taken = taken_of c.self.inside.pass;
      looks = looks_of c.self.inside.pass;
      next = c.self.inside.next;
      fresh = c.self.inside.fresh;
      door = c.self.inside.door;
    } in
    let new : HomeNow = record old { inner = g.P.Port.seen c.connect.new.self; made = c.push_reserved.new.self.items; room = c.push_reserved.new.self.room } in
    let made : new.inner.made ≡ old.inner.made ++ c.id.result ∷ [] = rw c.id.ensures (ap (λ (s : SeenPort). s.made) c.in-Made.ensures.2) in
    home_opens old new c.id.result c.self.invariant made (ap (λ (s : SeenPort). s.at) c.in-Made.ensures.2)
    (rw (c.push_reserved.ensures, c.reserve.ensures.items) refl) refl refl refl

-- src/port.rt:283:32
pub invariant_of-self-in-Failed : goal.invariant_of-self-in-Failed
invariant_of-self-in-Failed g c =
    let old : HomeNow = record {
      inner = g.P.Port.seen c.self.inside.port;
      made = c.self.inside.made.items;
      room = c.self.inside.made.room;
      quiet = c.self.inside.quiet;
      taken = taken_of c.self.inside.pass;
      looks = looks_of c.self.inside.pass;
      next = c.self.inside.next;
      fresh = c.self.inside.fresh;
      door = c.self.inside.door;
    } in
    let new : HomeNow = record old { inner = g.P.Port.seen c.connect.new.self; made = c.reserve.new.self.items; room = c.reserve.new.self.room } in
    home_same old new c.self.invariant (ap (λ (s : SeenPort). s.made) c.in-Failed.ensures.1) (ap (λ (s : SeenPort). s.at) c.in-Failed.ensures.1)
    c.reserve.ensures.items refl refl refl

-- src/port.rt:270:5
pub returns-in-Made : goal.returns-in-Made
returns-in-Made g c =
    let port = g.P.Port.seen c.self.inside.port in
    let other : (c.args.to.now.ip == c.args.self.now.inner.at.ip) && (c.args.to.now.port == c.args.self.now.inner.at.port) ≡ false = sym c.is_own.ensures ∙ c.if-is_own.false in
    let apart = rw (← c.self.view_is) at other in
    let fresh = c.in-Made.ensures.0 in
    rw (← c.self.view_is, c.own.ensures) (
      record {
        towards = fresh.towards;
        first = new_here port c.args.to.now c.self.inside.made.items _ apart fresh.first fresh.towards c.self.invariant.1;
        unused = fresh.unused;
      },
      (tt, tt),
      rw (c.in-Made.ensures.2, c.push_reserved.ensures, c.reserve.ensures.items, c.id.ensures) refl,
    )
