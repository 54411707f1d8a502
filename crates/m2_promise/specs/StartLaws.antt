-- What is promised of a scenario's run from its beginning.
use Rattle.std.specs.Prelude.{◌≡◌, ℕ, List, length, map, slice_get, Some}
use Rattle.std.specs.List.{AllByRecursion}
use Rattle.m2_script.specs.m2_cluster.Node.{NodeNow}
use Rattle.m2_dispatch.specs.declared.logged.Logged.{Logged}
use Rattle.m2_dispatch.specs.Heard.{heard_by}
use Rattle.m2_promise.specs.Kept.{IsKept}
pub use Rattle.m2_promise.specs.KeepingLaws.{DeedsStayKept, KeptCanBeDone}
use Rattle.m2_promise.specs.Planned.{steps_for}
use Rattle.m2_script.specs.m2_record.RecordNow.{RecordNow}
use Rattle.m2_scenario.specs.declared.line.Line.{Line}
use Rattle.m2_scenario.specs.declared.link.Link.{Link}
use Rattle.m2_scenario.specs.declared.node.Node.{Node}
use Rattle.m2_scenario.specs.Draft.{draft_line}
use Rattle.m2_scenario.specs.Valid.{IsSound}
use Rattle.m2_script.specs.Apart.{EndsStayApart}
use Rattle.m2_script.specs.Script.{CanAllBeDone, RunNow, script_of}
use Rattle.m2_promise.specs.Started.{IsFirst, IsScriptRun}

-- The nodes of a valid scenario before its first line keep all that a script's run keeps.
abbrev pub FirstIsKept : Type 0
FirstIsKept = (nodes : List Node) (links : List Link) (lines : List Line) (s : RunNow (List Logged)) → IsSound nodes links (map draft_line lines) → IsFirst nodes links lines s →
    IsKept heard_by nodes links s

-- So all its lines can be done,
abbrev pub FirstCanBeDone : Type 0 → Type 0
FirstCanBeDone E = (nodes : List Node) (links : List Link) (lines : List Line) (s : RunNow (List Logged)) → IsSound nodes links (map draft_line lines) → IsFirst nodes links lines s →
    CanAllBeDone E heard_by (script_of links (length nodes) lines) s

-- at no node two ends are of one socket behind any of their deeds,
abbrev pub FirstStaysApart : Type 0 → Type 0
FirstStaysApart E = (nodes : List Node) (links : List Link) (lines : List Line) (s : RunNow (List Logged)) → IsSound nodes links (map draft_line lines) → IsFirst nodes links lines s →
    EndsStayApart E heard_by (script_of links (length nodes) lines) s

-- each record's plan is exactly what the lines have planned for it, in order
abbrev pub PlansAreOfLines : List Link → (count : ℕ) → List Line → RunNow (List Logged) → Type 0
PlansAreOfLines links count lines s =
    (i : ℕ) (n : NodeNow (List Logged)) → slice_get s.cluster.nodes i ≡ Some n → AllByRecursion (λ (r : RecordNow). r.plan ≡ steps_for i r.place (script_of links count lines)) n.center.records

-- and where the last of them leads the run keeps all this still, and each plan is what the lines planned.
abbrev pub ScriptRunIsKept : Type 0 → Type 0
ScriptRunIsKept E = (nodes : List Node) (links : List Link) (lines : List Line) (first last : RunNow (List Logged)) → IsSound nodes links (map draft_line lines) →
    IsScriptRun E nodes links lines first last → IsKept heard_by nodes links last × PlansAreOfLines links (length nodes) lines last
