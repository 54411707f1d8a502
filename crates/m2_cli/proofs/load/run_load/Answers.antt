-- What a run of the generated scenario counts.
use Rattle.std.proofs.Common.{List, ap, length, sum_by, ◌∙◌}
use Rattle.m2_scenario.specs.m2_dispatch.Heard.{heard_by}
use Rattle.m2_scenario.specs.Generated.{generated}
use Rattle.m2_scenario.specs.declared.link.Link.{Link}
use Rattle.m2_exact.specs.m2_script.Outcome.{left_in}
use Rattle.m2_cli.proofs.Made.{run_of_made}
use Rattle.m2_cli.proofs.load.run_load.Goals as goal

pub returns : goal.returns
returns c =
    let made = c.in_ok-nodes.ensures.made in
    let is = c.in_ok-logs.ensures in
    record {
      last = is.last;
      run = run_of_made (generated c.args.posts c.args.seed) _ _ _ _ made.nodes made.links made.lines c.in_ok-nodes.ensures.valid is;
      dispatched = c.in_ok-dispatched.ensures ∙ ap (sum_by length) is.logs;
      left = is.left ∙ ap (λ (ls : List Link). left_in heard_by ls is.last) made.links;
    }
