use Rattle.std.proofs.Common.{◌≡◌, drop, map}
use Rattle.m2_weave.specs.Stops.{first_stop}
use Rattle.m2_weave.specs.Strands.{strand_now}
use Rattle.m2_weave.specs.Table.{woven_of}
use Rattle.m2_weave.proofs.stopping.first_stop.Given as goal

-- those so far stand at no read that may not come
abbrev pub invariant-loop-j : goal.invariant-loop-j
invariant-loop-j l =
    first_stop (woven_of l.strands l.sockets) l.at (map strand_now (drop l.j l.strands)) (drop l.j l.at)
    ≡ first_stop (woven_of l.strands l.sockets) l.at (map strand_now l.strands) l.at
