use Rattle.std.proofs.Common.{◌≡◌, ◌++◌, map, drop}
use Rattle.m2_history.specs.Ends.{end_now}
use Rattle.m2_history.specs.Woven.{loose_ends}
use Rattle.m2_history.proofs.weaving.add_loose_ends.Given as goal

-- those so far, and those that are left
abbrev pub invariant-loop-half : goal.invariant-loop-half
invariant-loop-half g l =
    map end_now l.ends.items ++ loose_ends l.known.a l.known.b (drop l.half-index l.loose) ≡ map end_now l.initial.ends.items ++ loose_ends l.known.a l.known.b l.loose
