-- A record's core stands where its journal leads.
use Rattle.std.proofs.Common.{ap}
use Rattle.m2_trace.specs.Dials.{cause_in}
use Rattle.m2_run_trace.proofs.laws.marks_are_of_journals.Goals as goal

pub returns : goal.returns
returns c = λ r h. rw (h.at_state.core.session, h.at_state.core.queue, h.at_state.core.dials) (ap cause_in h.at_state.replay.state)
