use Rattle.std.proofs.Common.{◌≡◌, ◌++◌, map, drop}
use Rattle.m2_history.specs.Woven.{loose_strands}
use Rattle.m2_weave.specs.Strands.{strand_now}
use Rattle.m2_history.proofs.weaving.add_loose_strands.Given as goal

-- those so far, and those that are left
abbrev pub invariant-loop-half : goal.invariant-loop-half
invariant-loop-half g l =
    map strand_now l.strands.items ++ loose_strands l.known.a l.known.b (drop l.half-index l.loose) ≡ map strand_now l.initial.strands.items ++ loose_strands l.known.a l.known.b l.loose
