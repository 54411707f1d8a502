-- All calls that dispatchers had in a script's run were noted, turn by turn: at first there was none.
use Rattle.std.proofs.Common.{◌<◌, List, length, sum_by, sym, ap, subst, ◌∙◌}
use Rattle.std.proofs.lemmas.Option.{slice_get_within}
use Rattle.m2_script.proofs.Lists.{item_at}
use Rattle.m2_script.specs.m2_center.Center.{CenterNow}
use Rattle.m2_dispatch.specs.declared.logged.Logged.{Logged}
use Rattle.m2_dispatch.specs.Heard.{heard_by}
use Rattle.m2_promise.specs.PostLaws.{CallsAreNoted}
use Rattle.m2_promise.specs.Posted.{AllNoted}
use Rattle.m2_promise.proofs.Calls.{all_noted}
use Rattle.m2_scenario.specs.declared.line.Line.{Line}
use Rattle.m2_scenario.specs.declared.link.Link.{Link}
use Rattle.m2_scenario.specs.declared.node.Node.{Node}
use Rattle.m2_script.specs.declared.calls.TurnCalls.{TurnCalls}
use Rattle.m2_script.specs.Outcome.{of_node}
use Rattle.m2_script.specs.Script.{RunNow, script_of}
use Rattle.m2_promise.specs.Started.{IsFirst}

first_noted : (nodes : List Node) (links : List Link) (lines : List Line) (s : RunNow (List Logged)) → IsFirst nodes links lines s → AllNoted heard_by s
first_noted nodes links lines s first k n e =
    let x = item_at nodes k (subst (λ m. k < m) first.new.count (slice_get_within s.cluster.nodes k n e)) in
    let its = first.new.each k x.0 n x.1 e in
    record {
      fast = ap (λ cs. sum_by (λ (c : TurnCalls). c.fast) (of_node k cs)) first.calls ∙ sym (ap (λ (c : CenterNow (List Logged)). length (heard_by c.out.fast)) its.center);
      queued = ap (λ cs. sum_by (λ (c : TurnCalls). c.queued) (of_node k cs)) first.calls ∙ sym (ap (λ (c : CenterNow (List Logged)). length (heard_by c.queued.inner)) its.center);
    }

pub calls_noted : (E : Type 0) → CallsAreNoted E
calls_noted E nodes links lines first last run = all_noted E heard_by (script_of links (length nodes) lines) first last run.ends (first_noted nodes links lines first run.begins)
