-- What is told where the last line leads is the outcome of the run.
use Rattle.std.proofs.Common.{◌≡◌, List, map, Result, Ok, Err, IfOk}
use Rattle.m2_bytes.specs.declared.memory.NoMemory as memory
use Rattle.m2_scenario.specs.m2_dispatch.declared.logged.Logged.{Logged}
use Rattle.m2_scenario.specs.m2_dispatch.Heard.{heard_by}
use Rattle.m2_exact.specs.m2_script.declared.outcome.Outcome.{Outcome}
use Rattle.m2_promise.specs.Posted.{KeepsPromise}
use Rattle.m2_scenario.specs.Report.{heard_in}
use Rattle.m2_scenario.specs.declared.line.Line.{Line}
use Rattle.m2_scenario.specs.declared.link.Link.{Link}
use Rattle.m2_scenario.specs.declared.node.Node.{Node}
use Rattle.m2_exact.specs.m2_script.Outcome.{all_heard, left_in}
use Rattle.m2_exact.specs.m2_script.Script.{RunNow}
use Rattle.m2_cli.specs.Run.{IsOutcome, IsScriptRun}
use Rattle.m2_cli.proofs.Told.{logs_are_of_nodes}

pub is_outcome : (nodes : List Node) (links : List Link) (lines : List Line) (first last : RunNow (List Logged)) → IsScriptRun nodes links lines first last → KeepsPromise nodes links lines last →
    (r : Result Outcome memory.NoMemory) → IfOk r (λ (o : Outcome). map heard_in o.logs.items ≡ all_heard heard_by last) → IfOk r (λ (o : Outcome). o.left ≡ left_in heard_by links last) →
    IfOk r (IsOutcome nodes links lines)
is_outcome nodes links lines first last script promise (Ok o) heard left = record {
  first = first;
  last = last;
  script = script;
  logs = heard;
  left = left;
  promise = promise;
  told = logs_are_of_nodes nodes links o.logs.items (all_heard heard_by last) heard promise.promised.joined;
}
is_outcome nodes links lines first last script promise (Err e) heard left = tt
