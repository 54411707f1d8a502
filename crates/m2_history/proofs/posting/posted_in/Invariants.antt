use Rattle.std.proofs.Common.{◌≡◌, ◌++◌, map}
use Rattle.m2_history.specs.Counted.{posted}
use Rattle.m2_message.specs.Message.{content_of}
use Rattle.m2_history.proofs.posting.posted_in.Given as goal

-- those so far, and those of what is left
abbrev pub invariant-loop-e : goal.invariant-loop-e
invariant-loop-e l = map content_of l.all.items ++ posted l.plan l.to l.key l.e-iterator ≡ posted l.plan l.to l.key l.journal.items
