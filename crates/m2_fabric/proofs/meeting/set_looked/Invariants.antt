-- The counts that were missing are noughts.
use Rattle.std.proofs.Common.{◌≡◌, ◌+◌, ◌-◌, ℕ, get_or, length}
use Rattle.m2_fabric.proofs.meeting.set_looked.Given as goal

abbrev pub invariant-loop-looked : goal.invariant-loop-looked
invariant-loop-looked l = (node : ℕ) → get_or l.looked.items node 0 ≡ get_or l.initial.looked.items node 0

abbrev pub decreases-loop-looked : goal.decreases-loop-looked
decreases-loop-looked l = l.node + 1 - length l.looked.items
