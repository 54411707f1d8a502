-- What a run of a scenario leaves. This project's own.
use Rattle.std.specs.Prelude.{◌≡◌, List, map}
use Rattle.m2_scenario.specs.m2_dispatch.declared.logged.Logged.{Logged}
use Rattle.m2_scenario.specs.m2_dispatch.Heard.{heard_by}
use Rattle.m2_exact.specs.m2_script.declared.outcome.Outcome.{Outcome}
pub use Rattle.m2_promise.specs.AtEnd.{Beside, is_down_of}
pub use Rattle.m2_promise.specs.Posted.{AreHeardInLives, HearsSome, IsAccountedOver, IsMarkedOnlySo, IsMarkedSo, KeepsPromise, gave_up_at, is_lossy, of_both}
use Rattle.m2_promise.specs.Posted as posted
use Rattle.m2_scenario.specs.Report.{AreLogsOf, heard_in}
use Rattle.m2_scenario.specs.declared.line.Line.{Line}
use Rattle.m2_scenario.specs.declared.link.Link.{Link}
use Rattle.m2_scenario.specs.declared.node.Node.{Node}
use Rattle.m2_exact.specs.m2_script.Outcome.{all_heard, left_in}
use Rattle.m2_exact.specs.m2_script.Script.{RunNow}
use Rattle.m2_fabric.specs.declared.cut_end.CutEnd.{CutEnd}
use Rattle.m2_fabric.specs.declared.sim_end.SimEnd.{SimEnd}

-- the lines are done one after another, each in full, over sockets in memory that may be cut
abbrev pub IsScriptRun : List Node → List Link → List Line → (first last : RunNow (List Logged)) → Type 0
IsScriptRun nodes links lines first last = posted.IsScriptRun (CutEnd SimEnd) nodes links lines first last

-- The lines were done one after another, from new nodes; the logs tell what each node's dispatchers were called with where the last
-- line leads, and the count how many posts are left there; and the promise is kept.
pub record IsOutcome (nodes : List Node) (links : List Link) (lines : List Line) (o : Outcome) : Type 0 where
  pub first : RunNow (List Logged)
  pub last : RunNow (List Logged)
  pub script : IsScriptRun nodes links lines first last
  pub logs : map heard_in o.logs.items ≡ all_heard heard_by last
  pub left : o.left ≡ left_in heard_by links last
  pub promise : KeepsPromise nodes links lines last
  pub told : AreLogsOf nodes o.logs.items
