use Rattle.m2_trace.specs.Entries.{answer_words}
use Rattle.m2_trace.proofs.Appended.{appended}
use Rattle.m2_trace.proofs.entries.put_answer.Goals as goal

pub returns-in-AcceptReset : goal.returns-in-AcceptReset
unfolding answer_words
returns-in-AcceptReset c = rw c.in-AcceptReset.is c.put_with_full.ensures

pub returns-in-ResetPending : goal.returns-in-ResetPending
unfolding answer_words
returns-in-ResetPending c = rw c.in-ResetPending.is (appended c.push_all-in-ResetPending.result _ _ _ c.push_all-in-ResetPending.ensures)

pub returns-in-RetryGlobal : goal.returns-in-RetryGlobal
unfolding answer_words
returns-in-RetryGlobal c = rw c.in-RetryGlobal.is c.put_with_number.ensures
