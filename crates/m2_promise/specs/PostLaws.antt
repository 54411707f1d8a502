-- What is promised of a script's run.
use Rattle.std.specs.Prelude.{List, Ok, length, map}
use Rattle.std.specs.List.{AllByRecursion}
use Rattle.m2_dispatch.specs.declared.logged.Logged.{Logged}
use Rattle.m2_dispatch.specs.Heard.{Heard, heard_by}
use Rattle.m2_promise.specs.Started.{IsKept, IsScriptRun}
use Rattle.m2_promise.specs.AtEnd.{AreAtEnd, Beside}
use Rattle.m2_promise.specs.Posted.{AllNoted, IsPromised, KeepsPromise, PostsOfTypes}
use Rattle.m2_scenario.specs.declared.line.Line.{Line}
use Rattle.m2_scenario.specs.declared.link.Link.{Link}
use Rattle.m2_scenario.specs.declared.node.Node.{Node}
use Rattle.m2_scenario.specs.Draft.{DraftLine, draft_line}
use Rattle.m2_scenario.specs.Valid.{IsSound}
use Rattle.m2_script.specs.Script.{Deed, Ends, RunNow}
use Rattle.m2_promise.specs.StartLaws.{PlansAreOfLines}

-- Deeds note the turns in which dispatchers are called, so where all calls were noted before them they are behind them;
abbrev pub DeedsNoteCalls : (D E : Type 0) → Type 0
DeedsNoteCalls D E = (heard : D → List Heard) (ds : List Deed) (old new : RunNow D) → Ends E heard (Ok tt) ds old new → AllNoted heard old → AllNoted heard new

-- and wherever the lines of a scenario lead, they are.
abbrev pub CallsAreNoted : Type 0 → Type 0
CallsAreNoted E = (nodes : List Node) (links : List Link) (lines : List Line) (first last : RunNow (List Logged)) → IsScriptRun E nodes links lines first last → AllNoted heard_by last

-- Where a run of a valid scenario's nodes has ended, whatever drove it, the promise is kept.
abbrev pub EndsArePromised : Type 0
EndsArePromised = (nodes : List Node) (links : List Link) (lines : List DraftLine) (beside : Beside) (s : RunNow (List Logged)) → IsSound nodes links lines →
    AreAtEnd nodes links lines beside s → IsPromised nodes links lines beside s

-- Where a run keeps what holds between any two deeds, each record's plan is what the lines of a valid scenario planned for it, and all
-- calls were noted, the promise is kept.
abbrev pub KeptIsPromised : Type 0
KeptIsPromised = (nodes : List Node) (links : List Link) (lines : List Line) (s : RunNow (List Logged)) → IsSound nodes links (map draft_line lines) →
    AllByRecursion PostsOfTypes lines → IsKept heard_by nodes links s → PlansAreOfLines links (length nodes) lines s → AllNoted heard_by s →
    KeepsPromise nodes links lines s

-- So wherever the lines of a valid scenario lead, it is.
abbrev pub PromisesAreKept : Type 0 → Type 0
PromisesAreKept E = (nodes : List Node) (links : List Link) (lines : List Line) (first last : RunNow (List Logged)) → IsSound nodes links (map draft_line lines) →
    AllByRecursion PostsOfTypes lines → IsScriptRun E nodes links lines first last → KeepsPromise nodes links lines last
