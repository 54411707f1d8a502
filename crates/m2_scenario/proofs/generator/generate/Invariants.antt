use Rattle.std.proofs.Common.{◌≡◌, ◌*◌, None}
use Rattle.m2_scenario.specs.Counts.{counts_of}
use Rattle.m2_scenario.specs.Cluster.{osds, all_pairs}
use Rattle.m2_scenario.specs.Counted.{AreFew}
use Rattle.m2_scenario.specs.Draws.{state_after}
use Rattle.m2_scenario.specs.Generated.{first_lines}
use Rattle.m2_scenario.proofs.generator.generate.Given as goal

-- the lines so far, and the draws that are left
abbrev pub invariant-posts : goal.invariant-posts
invariant-posts l = record {
  draft : l.draft ≡ record { nodes = osds; links = all_pairs; lines = first_lines l.seed l.number; limit = None };
  few : AreFew (counts_of l.draft.lines) l.number l.number l.number;
  draws : l.draws ≡ state_after l.seed (5 * l.number);
}
