use Rattle.m2_shared.specs.Gates.{places}
use Rattle.std.proofs.Common.{◌∙◌, sym}
use Rattle.m2_record.proofs.Heeding.{may-obey, reset-obeyed, unreset, words-obeyed}
use Rattle.m2_record.proofs.record.Record.take_front.Goals as goal

pub obey-requires-clause-next : goal.obey-requires-clause-next
obey-requires-clause-next g c = (may-obey c.heed_front-framed.result c.in-Some.full _ (sym c.reset_in.ensures ∙ c.in-Some.is) c.heed_front-framed.ensures.reset).0

pub obey-requires-clause-room : goal.obey-requires-clause-room
obey-requires-clause-room g c = (may-obey c.heed_front-framed.result c.in-Some.full _ (sym c.reset_in.ensures ∙ c.in-Some.is) c.heed_front-framed.ensures.reset).1

pub returns-in-Some-clause-frames : goal.returns-in-Some-clause-frames
returns-in-Some-clause-frames g c = reset-obeyed _ c.heed_front-framed.result c.in-Some.full c.args.now _ c.heed_front-framed.new.self _ (sym c.reset_in.ensures ∙ c.in-Some.is) c.heed_front-framed.ensures.heeds c.obey.ensures.obeys

pub returns-in-Some-clause-owned : goal.returns-in-Some-clause-owned
returns-in-Some-clause-owned g c = c.obey.ensures.owned (places c.args.throttles.now) c.heed_front-framed.ensures.owned

pub returns-in-Some-clause-word : goal.returns-in-Some-clause-word
returns-in-Some-clause-word g c = words-obeyed c.heed_front-framed.result c.in-Some.full _ _ _ _ (sym c.reset_in.ensures ∙ c.in-Some.is) c.heed_front-framed.ensures.word

pub returns-in-None-clause-frames : goal.returns-in-None-clause-frames
returns-in-None-clause-frames g c = unreset _ c.heed_front-framed.result c.args.now _ _ (sym c.reset_in.ensures ∙ c.in-None.is) c.heed_front-framed.ensures.heeds

pub returns-in-Some-clause-top : goal.returns-in-Some-clause-top
returns-in-Some-clause-top g c = c.obey.ensures.top ∙ c.heed_front-framed.ensures.top
