-- The logs are those of every run that ends so, and of the ways that were counted before the end as many posts are left.
use Rattle.std.proofs.Common.{◌≡◌, List, [], map, sym, ap, ◌∙◌, sum_by}
use Rattle.std.specs.Prelude.{flat_map}
use Rattle.m2_bytes.specs.Items.{Holding}
use Rattle.m2_cluster.specs.Cluster.{ClusterNow}
use Rattle.m2_dispatch.specs.declared.logged.Logged.{Logged}
use Rattle.m2_dispatch.specs.Heard.{heard_by}
use Rattle.m2_scenario.specs.Report.{heard_in}
use Rattle.m2_script.specs.Outcome.{all_heard}
use Rattle.m2_script.specs.Script.{RunNow}
use Rattle.m2_script.specs.Ended.{EndsWith, both_of, ended}
use Rattle.m2_script.specs.Ways.{left_of, ways_over}
use Rattle.m2_script.proofs.Lefts.{left_of_all}
use Rattle.m2_script.proofs.outcome.outcome_of.Goals as goal

pub returns : goal.returns
returns g c =
    let links = c.args.links.now in
    let logs = c.in_ok-logs.logs.items in
    let heard : (s : RunNow (List Logged)) → EndsWith c.args.cluster c.args.calls.items s → map heard_in logs ≡ all_heard heard_by s =
    λ s h. c.in_ok-logs.ensures s (record { both = c.in_ok-ended.ensures ∙ ap (λ (k : ClusterNow (List Logged)). map both_of k.nodes) (sym h.cluster); calls = h.calls ∙ sym c.as_slice.ensures }) in
    record {
      heard = heard;
      left = λ s h.
          c.in_ok-left.ensures
          ∙ ap (λ (ls : List (Holding Logged)). sum_by (left_of ls) c.as_slice-2.result.now) c.as_slice-3.ensures
          ∙ ap (sum_by (left_of logs)) (c.as_slice-2.ensures.value ∙ c.in_ok-ways.ensures ∙ ap (λ (k : ClusterNow (List Logged)). flat_map (ways_over (ended k [])) links) (sym h.cluster))
          ∙ left_of_all logs s links (heard s h);
    }
