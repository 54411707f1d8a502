use Rattle.std.proofs.Common.{◌++◌, subst, sym}
use Rattle.m2_turn.specs.HalfTurn.{Others}
use Rattle.m2_turn.specs.HalvesTurn.{stays_by}
use Rattle.m2_turn.specs.Sessions.{AreConsistent, supply_of}
use Rattle.m2_turn.proofs.Queued.{queued}
use Rattle.m2_turn.proofs.halves_turn.turn_oldest.Goals as goal

pub turn_half-turned-requires-clause-consistent : goal.turn_half-turned-requires-clause-consistent
turn_half-turned-requires-clause-consistent g c = (
  record { made = c.requires.consistent.0; entity = c.requires.consistent.1.0; halves = c.pop.new.self; loose = c.args.loose.now.items },
  subst (λ h. AreConsistent (supply_of c.args.work.now) c.requires.consistent.1.0 (record { made = c.requires.consistent.0; records = c.args.records.now; halves = h; loose = c.args.loose.now.items }))
      c.in-Some.ensures c.requires.consistent.1.1,
)

pub returns-clause-consistent : goal.returns-clause-consistent
returns-clause-consistent g c =
    λ made entity all.
    let others : Others = record { made = made; entity = entity; halves = c.pop.new.self; loose = c.args.loose.now.items } in
    subst (λ h. AreConsistent (supply_of c.turn_half-turned.new.work) entity (record { made = made; records = c.turn_half-turned.new.records; halves = h; loose = c.put_turned.new.loose.items })) (sym c.put_turned.ensures.halves)
    (subst (λ l. AreConsistent (supply_of c.turn_half-turned.new.work) entity (record { made = made; records = c.turn_half-turned.new.records; halves = c.pop.new.self ++ stays_by c.turn_half-turned.result; loose = l }))
    (sym c.put_turned.ensures.loose)
    (queued c.turn_half-turned.result (supply_of c.turn_half-turned.new.work) others c.turn_half-turned.new.records
    (c.turn_half-turned.ensures.consistent others
    (subst (λ h. AreConsistent (supply_of c.args.work.now) entity (record { made = made; records = c.args.records.now; halves = h; loose = c.args.loose.now.items })) c.in-Some.ensures all))))
