use Rattle.std.proofs.Common.{◌≡◌, ◌≤◌, length, ℕ, List, ◌++◌}
use Rattle.m2_edge.specs.Sink.{TakesBytes}
use Rattle.m2_edge.proofs.whole.write_whole.Given as goal

-- what was taken and what is left are the text
abbrev pub invariant-loop-rest : goal.invariant-loop-rest
invariant-loop-rest g l =
    record {
      never_falls : (g.O.Sink.seen l.fn.out).faults ≤ (g.O.Sink.seen l.out).faults;
      parted : (done : List ℕ) × (l.bytes ≡ done ++ l.rest) × TakesBytes done (g.O.Sink.seen l.fn.out) (g.O.Sink.seen l.out);
      flushed : (g.O.Sink.seen l.out).flushed ≡ (g.O.Sink.seen l.fn.out).flushed;
    }

abbrev pub decreases-loop-rest : goal.decreases-loop-rest
decreases-loop-rest g l = length l.rest
