use Rattle.std.proofs.Common.{◌≡◌, drop}
use Rattle.m2_weave.specs.Strands.{strand_now}
use Rattle.m2_weave.proofs.stopping.item_at.Given as goal

-- the items from there on
abbrev pub invariant-loop-n : goal.invariant-loop-n
invariant-loop-n l = l.left ≡ drop l.n (strand_now l.s).items
