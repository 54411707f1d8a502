use Rattle.std.proofs.Common.{◌≡◌, take}
use Rattle.m2_weave.specs.Table.{lengths_of}
use Rattle.m2_weave.proofs.weaving.is_all.Given as goal

-- those so far are all
abbrev pub invariant-loop-k : goal.invariant-loop-k
invariant-loop-k l = take l.k l.at ≡ take l.k (lengths_of l.strands)
