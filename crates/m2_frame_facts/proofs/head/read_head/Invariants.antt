use Rattle.std.proofs.Common.{◌≡◌, ◌≤◌, ◌-◌, length}
use Rattle.m2_edge.specs.Source.{GivesItsInput}
use Rattle.m2_frame_facts.specs.declared.head.TheConstants.{MOST_HEAD}
use Rattle.m2_frame_facts.proofs.head.read_head.Given as goal

-- what came so far is all that the reads gave
abbrev pub invariant-reads : goal.invariant-reads
invariant-reads g l =
    record {
      few : length l.head.bytes ≤ MOST_HEAD;
      given : l.head.bytes ≡ (g.S.Source.seen l.src).given;
      known : GivesItsInput (g.S.Source.seen l.src);
      rises : (g.S.Source.seen l.fn.src).faults ≤ (g.S.Source.seen l.src).faults;
      inputs : (g.S.Source.seen l.src).inputs ≡ (g.S.Source.seen l.fn.src).inputs;
      begun : (g.S.Source.seen l.src).begun ≡ (g.S.Source.seen l.fn.src).inputs l.fn.name;
    }

abbrev pub decreases-reads : goal.decreases-reads
decreases-reads g l = MOST_HEAD - length l.head.bytes
