-- What is handed on to the record that takes a socket.
use Rattle.std.proofs.Common.{◌≡◌, ap, ◌∙◌, sym, subst, is_some}
use Rattle.m2_trail.specs.Arrivals.{IsEndOf}
use Rattle.m2_trail.specs.Incoming.{IncomingNow, IsAnswered}
use Rattle.m2_trail.specs.Trails.{IsTaken, IsWholeTrail, begins, half_bytes, unread_of}
use Rattle.m2_trail.proofs.Taking.{is_end, is_taken, is_unread}
use Rattle.m2_trail.proofs.Whole.{whole_trail, is_arrival, the_ask}
use Rattle.m2_trail.proofs.incoming.Incoming.take.Goals as goal

pub returns-clause-unread : goal.returns-clause-unread
returns-clause-unread g c =
    let answered = subst (IsAnswered c.args.answer.now) (sym c.self.view_is) c.requires.judged in
    subst (λ (v : IncomingNow). c.finish.result.rest ≡ unread_of v.trail v.end.log) c.self.view_is
    (c.finish.ensures.rest ∙ is_unread _ c.args.answer.now c.self.invariant.0 answered c.requires.takes)

pub returns-clause-end_of_got : goal.returns-clause-end_of_got
returns-clause-end_of_got g c =
    let here = the_ask c.self.inside.ask (ap (λ (v : IncomingNow). is_some v.ask) c.self.view_is ∙ c.requires.asked) in
    let owed = (is_arrival _ here.0 here.1 c.self.invariant.0).owes.owed in
    subst (λ (v : IncomingNow). IsEndOf c.finish.result.rest v.end.log.got) c.self.view_is
    (rw c.finish.ensures.rest (is_end _ c.self.invariant.0 owed))

pub returns-clause-whole : goal.returns-clause-whole
returns-clause-whole g c = subst (λ (v : IncomingNow). IsWholeTrail v.trail v.end) c.self.view_is (whole_trail _ c.self.invariant.0)

pub returns-clause-taken : goal.returns-clause-taken
returns-clause-taken g c =
    let answered = subst (IsAnswered c.args.answer.now) (sym c.self.view_is) c.requires.judged in
    subst (λ (v : IncomingNow). IsTaken (begins v.trail) (half_bytes v.trail v.end.log) v.trail.judged (unread_of v.trail v.end.log)) c.self.view_is (is_taken _ c.args.answer.now c.self.invariant.0 answered c.requires.takes)
