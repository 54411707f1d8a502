use Rattle.m2_shared.specs.Gates.{dispatch}
use Rattle.m2_record_trace.proofs.dispatching.dispatch_letter.Goals as goal

pub returns-in-Fast-clause-word : goal.returns-in-Fast-clause-word
returns-in-Fast-clause-word c = c.back.ensures.word dispatch (c.requires.alone dispatch)

pub returns-in-Queued-clause-word : goal.returns-in-Queued-clause-word
returns-in-Queued-clause-word c = c.back.ensures.word dispatch (c.requires.alone dispatch)
