use Rattle.std.proofs.Common.{subst, sym, ◌++◌, ◌∷◌, []}
use Rattle.m2_turn.specs.HalfTurn.{with_half}
use Rattle.m2_turn.specs.Sessions.{AreConsistent, supply_of}
use Rattle.m2_turn.proofs.Turned.{closed_consistent, moved_on}
use Rattle.m2_turn.proofs.half_turn.turn_once.Goals as goal

pub answer_ask-requires-clause-consistent : goal.answer_ask-requires-clause-consistent
answer_ask-requires-clause-consistent g c = (
  c.requires.consistent.0,
  subst (λ h. AreConsistent (supply_of c.args.work.now) c.requires.consistent.0.entity (with_half (record { half = h; asker = c.p.inside.asker }) c.requires.consistent.0 c.args.records.now)) (sym c.of.ensures)
      (moved_on (supply_of c.args.work.now) c.requires.consistent.0 c.args.records.now c.args.p (record { half = c.p.inside.half; asker = c.p.inside.asker }) c.advance.new.half c.p.view_is
      (c.turns_leave_the_half.ensures c.advance.result c.p.inside.half c.advance.new.half c.advance.ensures) c.requires.consistent.1),
)

pub returns-in-Asked-clause-consistent : goal.returns-in-Asked-clause-consistent
returns-in-Asked-clause-consistent g c =
    λ o all. c.answer_ask.ensures.consistent o
    (subst (λ h. AreConsistent (supply_of c.args.work.now) o.entity (with_half (record { half = h; asker = c.p.inside.asker }) o c.args.records.now)) (sym c.of.ensures)
    (moved_on (supply_of c.args.work.now) o c.args.records.now c.args.p (record { half = c.p.inside.half; asker = c.p.inside.asker }) c.advance.new.half c.p.view_is
    (c.turns_leave_the_half.ensures c.advance.result c.p.inside.half c.advance.new.half c.advance.ensures) all))

pub returns-in-Waits-clause-consistent : goal.returns-in-Waits-clause-consistent
returns-in-Waits-clause-consistent g c =
    λ o all. moved_on (supply_of c.args.work.now) o c.args.records.now c.args.p (record { half = c.p.inside.half; asker = c.p.inside.asker }) c.advance.new.half c.p.view_is
    (c.turns_leave_the_half.ensures c.advance.result c.p.inside.half c.advance.new.half c.advance.ensures) all

pub returns-in-Busy-clause-consistent : goal.returns-in-Busy-clause-consistent
returns-in-Busy-clause-consistent g c =
    λ o all. moved_on (supply_of c.args.work.now) o c.args.records.now c.args.p (record { half = c.p.inside.half; asker = c.p.inside.asker }) c.advance.new.half c.p.view_is
    (c.turns_leave_the_half.ensures c.advance.result c.p.inside.half c.advance.new.half c.advance.ensures) all

pub returns-in-NoMemory-clause-consistent : goal.returns-in-NoMemory-clause-consistent
returns-in-NoMemory-clause-consistent g c =
    λ o all. moved_on (supply_of c.args.work.now) o c.args.records.now c.args.p (record { half = c.p.inside.half; asker = c.p.inside.asker }) c.advance.new.half c.p.view_is
    (c.turns_leave_the_half.ensures c.advance.result c.p.inside.half c.advance.new.half c.advance.ensures) all

pub returns-in-Over-clause-consistent : goal.returns-in-Over-clause-consistent
returns-in-Over-clause-consistent g c =
    λ o all. subst (λ l. AreConsistent (supply_of c.args.work.now) o.entity (record { made = o.made; records = c.args.records.now; halves = o.halves; loose = o.loose ++ l ∷ [] })) (sym c.close.ensures)
    (closed_consistent (supply_of c.args.work.now) o.entity (record { half = c.advance.new.half; asker = c.p.inside.asker }) o c.args.records.now
    (moved_on (supply_of c.args.work.now) o c.args.records.now c.args.p (record { half = c.p.inside.half; asker = c.p.inside.asker }) c.advance.new.half c.p.view_is
    (c.turns_leave_the_half.ensures c.advance.result c.p.inside.half c.advance.new.half c.advance.ensures) all))
