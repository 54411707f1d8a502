-- What `run FILE` comes to, by a run of the file's nodes on threads. This project's own.
use Rattle.std.specs.Prelude.{◌≡◌, ◌⊎◌, ℕ, ◌==◌, true, List, [], if◌then◌else◌, map, unwrap_or, Result, Ok, Err}
use Rattle.std.specs.List.{AllByRecursion}
use Rattle.m2_edge.specs.Sink.{TakesPrefix}
use Rattle.m2_edge.specs.Source.{SeenSource}
use Rattle.m2_edge.specs.declared.whole.ReadFault.{ReadFault}
use Rattle.m2_edge.specs.declared.whole.ReadFault.TheVariants as fault
use Rattle.m2_fabric.specs.Fabric.{SeenFabric}
use Rattle.m2_run.specs.Joined.{PostsOfTypes}
use Rattle.m2_run.specs.Listening.{IsBindFault}
use Rattle.m2_run.specs.Ran.{HasRan, IsUnfitRun}
use Rattle.m2_run.specs.declared.outcome.Outcome.{Outcome}
use Rattle.m2_scenario.specs.Draft.{Draft, draft_line}
use Rattle.m2_scenario.specs.Report.{heard_in, name_of, report_of}
use Rattle.m2_scenario.specs.Text.{Word}
use Rattle.m2_scenario.specs.Valid.{IsSound}
use Rattle.m2_scenario.specs.declared.limits.TheConstants.{USUAL_LIMIT}
use Rattle.m2_scenario.specs.declared.line.Line.{Line}
use Rattle.m2_scenario.specs.declared.node.Node.{Node}
use Rattle.m2_scenario_text.specs.Reading.{text_read}
use Rattle.m2_weave.specs.declared.unfit.Unfit.{Unfit}
use Rattle.m2_cli.specs.Edge.{Edge, IsReadWhole, OutFailed, SourceFailed, StandsSomewhere}
use Rattle.m2_cli.specs.Print.{Delivers}
use Rattle.m2_cli.specs.Printout.{IsPrintoutBy}
use Rattle.m2_cli.specs.Top.{IsNotRun}
use Rattle.m2_cli.specs.Verdict.{BadAt, IsRefused, judged}
use Rattle.m2_cli.specs.declared.printout.Printout.{Printout}
use Rattle.m2_cli.specs.declared.status.Status.{Status}
use Rattle.m2_cli.specs.declared.status.Status.TheVariants as status

-- ---- the scenario

-- the scenario that a file's bytes make, by the language of `run`
abbrev pub threads_in : List ℕ → Result Draft BadAt
threads_in bytes = judged (text_read true bytes)

-- the names of its nodes; none of a bad file
abbrev pub names_of : Result Draft BadAt → List Word
names_of (Ok d) = map name_of d.nodes
names_of (Err bad) = []

abbrev pub names_in : List ℕ → List Word
names_in bytes = names_of (threads_in bytes)

-- its nodes
abbrev pub nodes_of : Result Draft BadAt → List Node
nodes_of (Ok d) = d.nodes
nodes_of (Err bad) = []

abbrev pub nodes_in : List ℕ → List Node
nodes_in bytes = nodes_of (threads_in bytes)

-- after how many milliseconds it stalls
abbrev pub limit_of : Draft → ℕ
limit_of d = unwrap_or d.limit USUAL_LIMIT

-- ---- its run

-- the status by whether a number of posts is left
abbrev pub status_by_left : ℕ → Status
status_by_left left = if left == 0 then status.Done else status.Stalled left

-- The scenario is a valid one, and its nodes ran on threads (m2_run); the status goes by how many posts are left, and the text is the
-- sorted report of what the dispatchers were called with.
pub record IsThreadRun (may_give : ℕ → Type 0) (old new : SeenFabric) (d : Draft) (s : Status) (text : List ℕ) : Type 0 where
  pub sound : IsSound d.nodes d.links d.lines
  pub lines : List Line
  pub made : map draft_line lines ≡ d.lines
  pub posts : AllByRecursion PostsOfTypes lines
  pub outcome : Outcome
  pub ran : HasRan may_give (limit_of d) d.nodes d.links lines old new outcome
  pub counted : s ≡ status_by_left outcome.left
  pub report : text ≡ report_of true d.nodes (map heard_in outcome.logs.items)

-- a node couldn't listen, and there is no text
pub record IsUnheard (old new : SeenFabric) (d : Draft) (s : Status) (text : List ℕ) : Type 0 where
  pub node : ℕ
  pub fault : IsBindFault node d.nodes old new
  pub told : s ≡ status.BindFault node
  pub empty : text ≡ []

-- the fabric counted no fault, unless a node couldn't listen
abbrev pub CountsNoOther : List Node → (old new : SeenFabric) → Type 0
CountsNoOther nodes old new = (new.faults ≡ old.faults) ⊎ ((node : ℕ) × IsBindFault node nodes old new)

-- a link of the run has no history, and there is no text
pub record IsUnwoven (may_give : ℕ → Type 0) (old new : SeenFabric) (d : Draft) (s : Status) (text : List ℕ) : Type 0 where
  pub sound : IsSound d.nodes d.links d.lines
  pub lines : List Line
  pub made : map draft_line lines ≡ d.lines
  pub byte : Unfit
  pub run : IsUnfitRun may_give d.nodes d.links lines old new byte
  pub told : s ≡ status.Unfit byte.socket byte.opener byte.place byte.why
  pub empty : text ≡ []

abbrev pub PlayComesTo : (may_give : ℕ → Type 0) → (old new : SeenFabric) → Draft → Status → List ℕ → Type 0
PlayComesTo may_give old new d s text = IsThreadRun may_give old new d s text ⊎ (IsUnheard old new d s text ⊎ IsUnwoven may_give old new d s text)

abbrev pub ThreadsReadTo : (may_give : ℕ → Type 0) → (old new : SeenFabric) → Result Draft BadAt → Status → List ℕ → Type 0
ThreadsReadTo may_give old new (Ok d) s text = PlayComesTo may_give old new d s text
ThreadsReadTo may_give old new (Err bad) s text = IsRefused bad s text × (new ≡ old)

-- What a file's bytes come to: a run of their scenario's nodes, or the first bad line, with which the fabric is as it was.
abbrev pub ThreadsComeTo : (may_give : ℕ → Type 0) → (old new : SeenFabric) → List ℕ → Status → List ℕ → Type 0
ThreadsComeTo may_give old new bytes s text = ThreadsReadTo may_give old new (threads_in bytes) s text

-- ---- what is left

-- the file was read whole, its bytes come to this status and a text, and standard output took exactly that text, flushed
pub record IsPlayedToEnd (may_give : ℕ → Type 0) (old new : SeenFabric) (file : List ℕ) (work : Status) (before after : Edge) : Type 0 where
  pub read : IsReadWhole file before.source after.source
  pub text : List ℕ
  pub comes : ThreadsComeTo may_give old new after.source.given work text
  pub printed : Delivers text before.out after.out

-- the file was read whole, its bytes come to a status and a text, standard output failed, and took a prefix of that text
pub record IsPlayedInPart (may_give : ℕ → Type 0) (old new : SeenFabric) (file : List ℕ) (before after : Edge) : Type 0 where
  pub read : IsReadWhole file before.source after.source
  pub failed : OutFailed before after
  pub work : Status
  pub text : List ℕ
  pub comes : ThreadsComeTo may_give old new after.source.given work text
  pub printed : TakesPrefix text before.out after.out

-- What `run FILE` leaves, by what its work came to.
-- Done, Stalled, BindFault, Unfit and BadScenario: the file was read whole, a run of its scenario's nodes (or its first bad line) comes
-- to exactly that, and the report of that run was printed whole; with the last three it is empty. WriteFault: standard output failed,
-- and has a prefix of the report. ReadFault and NoMemory: nothing was printed; with ReadFault the fabric is as it was, and with NoMemory it
-- counted no fault, unless a node of the scenario couldn't listen. It never comes to Usage, Left or BadFrames.
abbrev pub RunsThreads : (may_give : ℕ → Type 0) → (old new : SeenFabric) → List ℕ → Status → Edge → Edge → Type 0
RunsThreads may_give old new file status.Done before after = IsPlayedToEnd may_give old new file status.Done before after
RunsThreads may_give old new file (status.Stalled left) before after = IsPlayedToEnd may_give old new file (status.Stalled left) before after
RunsThreads may_give old new file (status.BindFault node) before after = IsPlayedToEnd may_give old new file (status.BindFault node) before after
RunsThreads may_give old new file (status.Unfit socket opener place why) before after =
    IsPlayedToEnd may_give old new file (status.Unfit socket opener place why) before after
RunsThreads may_give old new file (status.BadScenario line kind) before after =
    IsPlayedToEnd may_give old new file (status.BadScenario line kind) before after
RunsThreads may_give old new file status.WriteFault before after = IsPlayedInPart may_give old new file before after
RunsThreads may_give old new file status.ReadFault before after = SourceFailed before after × IsNotRun file before after × (new ≡ old)
RunsThreads may_give old new file status.NoMemory before after = IsNotRun file before after × CountsNoOther (nodes_in after.source.given) old new
RunsThreads may_give old new file status.Usage before after = ⊥
RunsThreads may_give old new file (status.Left count) before after = ⊥
RunsThreads may_give old new file (status.BadFrames place fault) before after = ⊥

-- the printout of all that the source gave of a file
pub record IsThreadsPrintout (p : Printout) (may_give : ℕ → Type 0) (old new : SeenFabric) (file : List ℕ) (before after : SeenSource) : Type 0 where
  pub read : IsReadWhole file before after
  pub printout : IsPrintoutBy (names_in after.given) (ThreadsComeTo may_give old new after.given) p

-- The printout of a file. Err: the file was read in part, or not at all; where the source failed the fabric is as it was, and in want of memory
-- it counted no fault, unless a node of the scenario couldn't listen.
abbrev pub PreparesThreads : Result Printout ReadFault → (may_give : ℕ → Type 0) → (old new : SeenFabric) → List ℕ → SeenSource → SeenSource → Type 0
PreparesThreads (Ok p) may_give old new file before after = IsThreadsPrintout p may_give old new file before after
PreparesThreads (Err fault.Failed) may_give old new file before after = StandsSomewhere file before after × (new ≡ old)
PreparesThreads (Err fault.NoMemory) may_give old new file before after = StandsSomewhere file before after × CountsNoOther (nodes_in after.given) old new
