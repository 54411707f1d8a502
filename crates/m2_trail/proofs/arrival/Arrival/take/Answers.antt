-- What a record is handed, behind the note of its answer.
use Rattle.std.proofs.Common.{ap, ◌∙◌, sym, subst, is_some}
use Rattle.m2_trail.specs.Incoming.{IncomingNow, after_judging}
use Rattle.m2_trail.specs.Trails.{IsTaken, begins, half_bytes, unread_of}
use Rattle.m2_trail.proofs.Taking.{taken_now}
use Rattle.m2_trail.proofs.arrival.Arrival.take.Goals as goal

pub returns-clause-taken : goal.returns-clause-taken
returns-clause-taken g c =
    taken_now c.args.self.ask c.args.answer c.args.self.trail c.args.self.end.log (ap (λ (v : IncomingNow). is_some v.ask) (sym c.self.view_is) ∙ c.self.invariant)
    (subst (λ (v : IncomingNow). IsTaken (begins v.trail) (half_bytes v.trail v.end.log) v.trail.judged (unread_of v.trail v.end.log))
    (c.note.ensures ∙ ap (λ (v : IncomingNow). after_judging c.args.answer c.note.new.self.room v) c.self.view_is) c.take.ensures.taken)
