use Rattle.std.proofs.Common.{◌≡◌, ◌≤◌, length, ◌-◌}
use Rattle.m2_edge.specs.Whole.{StandsIn}
use Rattle.m2_edge.proofs.whole.read_whole.Given as goal

-- what was read so far is what the source gave of the input
abbrev pub invariant-loop-src : goal.invariant-loop-src
invariant-loop-src g l =
    record {
      never_falls : (g.S.Source.seen l.fn.src).faults ≤ (g.S.Source.seen l.src).faults;
      inputs : (g.S.Source.seen l.src).inputs ≡ (g.S.Source.seen l.fn.src).inputs;
      most : length l.bytes.bytes ≤ l.most;
      given : l.bytes.bytes ≡ (g.S.Source.seen l.src).given;
      stands : StandsIn l.name (g.S.Source.seen l.fn.src) (g.S.Source.seen l.src);
    }

abbrev pub decreases-loop-src : goal.decreases-loop-src
decreases-loop-src g l = l.most - length l.bytes.bytes
