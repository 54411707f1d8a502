use Rattle.std.proofs.Common.{◌≡◌, ◌+◌, drop, map}
use Rattle.m2_weave.specs.Strands.{strand_now, written_at}
use Rattle.m2_weave.proofs.stopping.written_at.Given as goal

-- with what is left
abbrev pub invariant-loop-j : goal.invariant-loop-j
invariant-loop-j l =
    l.sum + written_at (map strand_now (drop l.j l.strands)) (drop l.j l.at) (record { socket = l.k; opener = l.opener })
    ≡ written_at (map strand_now l.strands) l.at (record { socket = l.k; opener = l.opener })
