-- With the posts that are left they are all.
use Rattle.std.proofs.Common.{◌≡◌, ◌+◌, ◌≤◌, drop, count_by}
use Rattle.m2_script.specs.Outcome.{is_post_step}
use Rattle.m2_script.proofs.ways.posts_in.Given as goal

abbrev pub invariant-loop-step : goal.invariant-loop-step
invariant-loop-step l = record {
  count : l.posts + count_by is_post_step (drop l.step-index l.plan) ≡ count_by is_post_step l.plan;
  few : l.posts ≤ l.step-index;
}
