use Rattle.std.proofs.Common.{◌∙◌, ◌*◌, ℕ, List, ap, None}
use Rattle.m2_scenario.specs.Draft.{Draft, DraftLine}
use Rattle.m2_scenario.specs.Cluster.{osds, all_pairs}
use Rattle.m2_scenario.specs.Draws.{draw, state_after}
use Rattle.m2_scenario.specs.Generated.{lines_by, with_lines}
use Rattle.m2_scenario.proofs.Streams.{more_lines, more_draws}
use Rattle.m2_scenario.proofs.generator.generate.Goals as goal

pub posts-preserved : goal.posts-preserved
posts-preserved c =
    let h = c.posts.invariant in
    let seed = c.args.seed in
    let i = c.posts.number in
    record {
      draft = c.in_ok-push_lines.ensures.lines ∙ ap (λ (s : ℕ). with_lines c.posts.draft (lines_by i (draw s))) h.draws
          ∙ ap (λ (d : Draft). with_lines d (lines_by i (draw (state_after seed (5 * i))))) h.draft
          ∙ ap (λ (ls : List DraftLine). record { nodes = osds; links = all_pairs; lines = ls; limit = None }) (more_lines seed i);
      few = c.in_ok-push_lines.ensures.few;
      draws = c.in_ok-push_lines.ensures.draws ∙ ap (λ (s : ℕ). state_after s 5) h.draws ∙ more_draws seed i;
    }
