-- The headline of `run FILE`: of nodes on threads, by whatever schedule, the same is promised as of the run of `sim`.
use Rattle.std.specs.Prelude.{◌≡◌, ℕ, true, List, [], map, Ok}
use Rattle.std.specs.List.{AllByRecursion}
use Rattle.m2_scenario.specs.m2_dispatch.declared.logged.Logged.{Logged}
use Rattle.m2_scenario.specs.m2_dispatch.Heard.{heard_by}
use Rattle.m2_fabric.specs.Fabric.{SeenFabric}
use Rattle.m2_run.specs.Kept.{ended_as_one}
use Rattle.m2_run.specs.m2_node.Nodes.{KeptNow, nodes_of}
use Rattle.m2_run.specs.Ran.{HasRan}
use Rattle.m2_run.specs.Rests.{loose_of}
use Rattle.m2_run.specs.declared.outcome.Outcome.{Outcome}
use Rattle.m2_scenario.specs.Draft.{Draft, draft_line}
use Rattle.m2_scenario.specs.Report.{report_of}
use Rattle.m2_scenario.specs.declared.line.Line.{Line}
use Rattle.m2_scenario.specs.declared.link.Link.{Link}
use Rattle.m2_exact.specs.m2_script.Outcome.{all_heard}
use Rattle.m2_exact.specs.m2_script.Script.{RunNow}
use Rattle.m2_cli.specs.declared.status.Status.{Status}
use Rattle.m2_cli.specs.Edge.{Edge}
use Rattle.m2_cli.specs.Order.{AreSessionsKept, HeardAll, KeepsOrderBy}
use Rattle.m2_cli.specs.Run.{IsMarkedOnlySo}
use Rattle.m2_cli.specs.Threads.{limit_of, threads_in}

-- nodes where a run on threads has left them, each as one of one center
abbrev pub left_there : List KeptNow → RunNow (List Logged)
left_there kept = ended_as_one (nodes_of kept)

-- an end was marked down only where a line of the scenario does so, or where its record gave the session up
abbrev pub EndsAreMarkedOnlySo : Draft → RunNow (List Logged) → Link → Type 0
EndsAreMarkedOnlySo d last l = IsMarkedOnlySo d.lines last l.a l.b × IsMarkedOnlySo d.lines last l.b l.a

-- The text is the sorted report of a run on threads of the scenario that the bytes make, and so many posts are left. Beside each link
-- stand the halves that no record of any node took.
pub record KeepsThreads (may_give : ℕ → Type 0) (old new : SeenFabric) (given text : List ℕ) (count : ℕ) : Type 0 where
  pub scenario : Draft
  pub read : threads_in given ≡ Ok scenario
  pub lines : List Line
  pub made : map draft_line lines ≡ scenario.lines
  pub outcome : Outcome
  pub ran : HasRan may_give (limit_of scenario) scenario.nodes scenario.links lines old new outcome
  pub kept : AreSessionsKept scenario (λ _ _. loose_of ran.kept) (left_there ran.kept) count
  pub marked : AllByRecursion (EndsAreMarkedOnlySo scenario (left_there ran.kept)) scenario.links
  pub report : text ≡ report_of true scenario.nodes (all_heard heard_by (left_there ran.kept))

-- no post is left, and all were dispatched
pub record KeepsAllThreads (may_give : ℕ → Type 0) (old new : SeenFabric) (given text : List ℕ) : Type 0 where
  pub prefixes : KeepsThreads may_give old new given text 0
  pub all : HeardAll prefixes.scenario (left_there prefixes.ran.kept)

abbrev pub KeepsThreadsOrder : (may_give : ℕ → Type 0) → (old new : SeenFabric) → Status → Edge → Edge → Type 0
KeepsThreadsOrder may_give old new answered before after =
    KeepsOrderBy (record { prefixes = KeepsThreads may_give old new; all = KeepsAllThreads may_give old new }) answered before after
