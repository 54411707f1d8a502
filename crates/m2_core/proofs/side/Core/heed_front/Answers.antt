use Rattle.std.proofs.Common.{sym, ◌∙◌}
use Rattle.m2_core.proofs.Taken.{front_at, heeds_at, keeps_at}
use Rattle.m2_core.proofs.side.Core.heed_front.Goals as goal

pub take_answer-requires-clause-front : goal.take_answer-requires-clause-front
take_answer-requires-clause-front g c = front_at _ _ _ _ c.self.view_is c.requires.heard c.in-Some.is

pub invariant_of-self : goal.invariant_of-self
invariant_of-self g c =
    keeps_at _ _ _ _ _ _ c.self.invariant c.self.view_is c.requires.heard c.in-Some.is c.requires.bounded (sym c.event.ensures ∙ c.in-Some-event.is) c.take_answer.ensures.takes

pub returns-in-Some-event-clause-heeds : goal.returns-in-Some-event-clause-heeds
returns-in-Some-event-clause-heeds g c = heeds_at _ _ _ _ _ _ c.self.view_is c.in-Some.is (sym c.event.ensures ∙ c.in-Some-event.is) c.take_answer.ensures.takes
