use Rattle.m2_shared.specs.Gates.{Return, held, places}
use Rattle.std.proofs.Common.{◌∙◌, arith, subst, sym}
use Rattle.m2_handshake.specs.declared.answer.HalfStep.TheVariants as half
use Rattle.m2_record.specs.Calls.{HasRoomToClose}
use Rattle.m2_record.proofs.Heeding.{broken-top, shaken-held, shaken-owned, shaken-top}
use Rattle.m2_record.proofs.record.Record.greet.Goals as goal

pub shake-requires : goal.shake-requires
shake-requires g c = c.requires.unsigned

pub break_feed-requires-clause-broken : goal.break_feed-requires-clause-broken
break_feed-requires-clause-broken g c = c.in-Fault.ensures.fault

pub break_feed-requires-clause-room : goal.break_feed-requires-clause-room
break_feed-requires-clause-room g c = subst HasRoomToClose (sym c.shake.ensures.room) (let two = c.requires.room.entries in record { entries = omega (arith, two); parcels = c.requires.room.parcels })

pub break_feed-requires-clause-owned : goal.break_feed-requires-clause-owned
break_feed-requires-clause-owned g c = shaken-owned (places c.args.throttles.now) (half.Fault c.in-Fault.fault) c.args.self.now c.shake.new.self c.in-Fault.ensures.shakes c.requires.owned

pub returns-in-Fault-clause-greets : goal.returns-in-Fault-clause-greets
returns-in-Fault-clause-greets g c = (c.shake.new.self, c.in-Fault.ensures.shakes, c.break_feed.ensures.breaks)

pub returns-in-Fault-clause-owned : goal.returns-in-Fault-clause-owned
returns-in-Fault-clause-owned g c = c.break_feed.ensures.owned

pub returns-in-Fault-clause-word : goal.returns-in-Fault-clause-word
returns-in-Fault-clause-word g c = subst (λ x. Return (held x) c.args.throttles.now c.args.passes.now c.break_feed.new.passes)
    (shaken-held (half.Fault c.in-Fault.fault) c.args.self.now c.shake.new.self c.in-Fault.ensures.shakes) c.break_feed.ensures.word

pub returns-in-NotYet-clause-greets : goal.returns-in-NotYet-clause-greets
returns-in-NotYet-clause-greets g c = c.in-NotYet.ensures.shakes

pub returns-in-NotYet-clause-owned : goal.returns-in-NotYet-clause-owned
returns-in-NotYet-clause-owned g c = shaken-owned (places c.args.throttles.now) half.NotYet c.args.self.now c.shake.new.self c.in-NotYet.ensures.shakes c.requires.owned

pub returns-in-Wrote-clause-greets : goal.returns-in-Wrote-clause-greets
returns-in-Wrote-clause-greets g c = c.in-Wrote.ensures.shakes

pub returns-in-Wrote-clause-owned : goal.returns-in-Wrote-clause-owned
returns-in-Wrote-clause-owned g c = shaken-owned (places c.args.throttles.now) half.Wrote c.args.self.now c.shake.new.self c.in-Wrote.ensures.shakes c.requires.owned

pub returns-in-Authed-clause-greets : goal.returns-in-Authed-clause-greets
returns-in-Authed-clause-greets g c = c.in-Authed.ensures.shakes

pub returns-in-Authed-clause-owned : goal.returns-in-Authed-clause-owned
returns-in-Authed-clause-owned g c = shaken-owned (places c.args.throttles.now) half.Authed c.args.self.now c.shake.new.self c.in-Authed.ensures.shakes c.requires.owned

pub returns-in-NoMemory-clause-greets : goal.returns-in-NoMemory-clause-greets
returns-in-NoMemory-clause-greets g c = c.in-NoMemory.ensures.shakes

pub returns-in-NoMemory-clause-owned : goal.returns-in-NoMemory-clause-owned
returns-in-NoMemory-clause-owned g c = shaken-owned (places c.args.throttles.now) half.NoMemory c.args.self.now c.shake.new.self c.in-NoMemory.ensures.shakes c.requires.owned

pub returns-in-Fault-clause-top : goal.returns-in-Fault-clause-top
returns-in-Fault-clause-top g c = broken-top c.args.now c.shake.new.self c.break_feed.new.self c.break_feed.ensures.breaks ∙ shaken-top (half.Fault c.in-Fault.fault) c.args.self.now c.shake.new.self c.in-Fault.ensures.shakes

pub returns-in-NotYet-clause-top : goal.returns-in-NotYet-clause-top
returns-in-NotYet-clause-top g c = shaken-top half.NotYet c.args.self.now c.shake.new.self c.in-NotYet.ensures.shakes

pub returns-in-Wrote-clause-top : goal.returns-in-Wrote-clause-top
returns-in-Wrote-clause-top g c = shaken-top half.Wrote c.args.self.now c.shake.new.self c.in-Wrote.ensures.shakes

pub returns-in-Authed-clause-top : goal.returns-in-Authed-clause-top
returns-in-Authed-clause-top g c = shaken-top half.Authed c.args.self.now c.shake.new.self c.in-Authed.ensures.shakes

pub returns-in-NoMemory-clause-top : goal.returns-in-NoMemory-clause-top
returns-in-NoMemory-clause-top g c = shaken-top half.NoMemory c.args.self.now c.shake.new.self c.in-NoMemory.ensures.shakes
