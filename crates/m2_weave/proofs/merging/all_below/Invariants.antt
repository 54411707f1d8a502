use Rattle.std.proofs.Common.{ℕ, ◌+◌, ◌<◌, ◌≤◌}
use Rattle.m2_weave.specs.Users.{IsIn}
use Rattle.m2_weave.proofs.merging.all_below.Given as goal

-- those that are so near below `n`
abbrev pub invariant-loop-i : goal.invariant-loop-i
invariant-loop-i l = (k : ℕ) → k < l.n → l.n ≤ k + l.i → IsIn k l.numbers.items
