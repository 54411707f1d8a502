use Rattle.m2_core.proofs.Obeyed.{keeps_at, obeyed_at, told_at}
use Rattle.m2_core.proofs.Taken.{heard_front_at, ungranted_at}
use Rattle.m2_core.proofs.side.Core.obey.Goals as goal

pub obey-requires-clause-lawful : goal.obey-requires-clause-lawful
obey-requires-clause-lawful g c = told_at c.laws_of_hearing.ensures.frames _ _ _ c.self.view_is c.requires.next

pub obey-requires-clause-front : goal.obey-requires-clause-front
obey-requires-clause-front g c = heard_front_at _ _ _ c.self.view_is c.requires.next

pub obey-requires-clause-ungranted : goal.obey-requires-clause-ungranted
obey-requires-clause-ungranted g c = ungranted_at _ _ _ c.self.invariant c.self.view_is c.requires.next

pub invariant_of-self : goal.invariant_of-self
invariant_of-self g c = keeps_at _ _ _ _ c.self.invariant c.self.view_is c.requires.next c.obey.ensures.obeys

pub returns-clause-obeyed : goal.returns-clause-obeyed
returns-clause-obeyed g c =
    obeyed_at c.laws_of_hearing.ensures.takes c.laws_of_hearing.ensures.changes c.laws_of_hearing.ensures.frames _ _ _ _ c.self.view_is c.requires.next c.obey.ensures.obeys
