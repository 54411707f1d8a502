use Rattle.m2_frame.proofs.Cutting.{Splits-feed, Splits-next, Splits-append, Splits-once}
use Rattle.m2_frame.proofs.laws.one_reading.Goals as goal

pub returns-clause-fed : goal.returns-clause-fed
returns-clause-fed c = Splits-feed

pub returns-clause-next : goal.returns-clause-next
returns-clause-next c = Splits-next

pub returns-clause-only : goal.returns-clause-only
returns-clause-only c = Splits-once

pub returns-clause-joined : goal.returns-clause-joined
returns-clause-joined c = Splits-append
