-- What is promised of a script's run.
use Rattle.std.specs.Prelude.{List, length, map, Ok}
use Rattle.std.specs.List.{AllByRecursion}
use Rattle.m2_dispatch.specs.Heard.{Heard}
use Rattle.m2_promise.specs.Kept.{IsKept}
use Rattle.m2_promise.specs.Planned.{PlansGoOn}
use Rattle.m2_scenario.specs.declared.line.Line.{Line}
use Rattle.m2_scenario.specs.declared.link.Link.{Link}
use Rattle.m2_scenario.specs.declared.node.Node.{Node}
use Rattle.m2_scenario.specs.Draft.{draft_line}
use Rattle.m2_scenario.specs.Valid.{IsLink, IsSound}
use Rattle.m2_script.specs.Script.{CanAllBeDone, CanBeDone, Deed, Ends, Happens, IsWithin, RunNow, script_of}

-- ---- one deed

-- Behind a deed a run keeps what it kept.
abbrev pub DeedsStayKept : (D E : Type 0) → Type 0
DeedsStayKept D E = (heard : D → List Heard) (nodes : List Node) (links : List Link) (d : Deed) (old new : RunNow D) → Happens E heard (Ok tt) d old new →
    IsKept heard nodes links old → IsKept heard nodes links new

-- A deed of its nodes and links can be done.
abbrev pub KeptCanBeDone : Type 0 → Type 0
KeptCanBeDone D = (heard : D → List Heard) (nodes : List Node) (links : List Link) (d : Deed) (s : RunNow D) → AllByRecursion (IsLink (length nodes)) links →
    IsWithin links (length nodes) d → IsKept heard nodes links s → CanBeDone d s

-- ---- a script

-- All lines of a valid scenario can be done by a run that keeps all this.
abbrev pub ScriptsCanBeDone : (D E : Type 0) → Type 0
ScriptsCanBeDone D E = (heard : D → List Heard) (nodes : List Node) (links : List Link) (lines : List Line) (s : RunNow D) →
    IsSound nodes links (map draft_line lines) → IsKept heard nodes links s → CanAllBeDone E heard (script_of links (length nodes) lines) s

-- Behind them it keeps it still, and the plan of each record goes on by what the lines plan for it.
abbrev pub ScriptsStayKept : (D E : Type 0) → Type 0
ScriptsStayKept D E = (heard : D → List Heard) (nodes : List Node) (links : List Link) (lines : List Line) (old new : RunNow D) →
    Ends E heard (Ok tt) (script_of links (length nodes) lines) old new → IsKept heard nodes links old →
    IsKept heard nodes links new × PlansGoOn (script_of links (length nodes) lines) old new
