-- What a scenario file comes to: a status and a report, by a run of its lines over nodes and the sockets between them.
use Rattle.std.specs.Prelude.{◌≡◌, ℕ, ◌==◌, false, List, [], if◌then◌else◌, map, Result, Ok, Err}
use Rattle.m2_scenario.specs.m2_dispatch.declared.logged.Logged.{Logged}
use Rattle.m2_scenario.specs.m2_dispatch.Heard.{heard_by}
use Rattle.m2_cli.specs.declared.status.Status.{Status}
use Rattle.m2_cli.specs.declared.status.Status.TheVariants.{Done, BadScenario, Left}
use Rattle.m2_cli.specs.Run.{IsScriptRun, KeepsPromise}
use Rattle.m2_scenario.specs.Report.{report_of}
use Rattle.m2_scenario.specs.declared.line.Line.{Line}
use Rattle.m2_scenario.specs.Draft.{Draft, draft_line}
use Rattle.m2_scenario.specs.Valid.{IsSound}
use Rattle.m2_scenario_text.specs.Flaw.{kind_of}
use Rattle.m2_scenario_text.specs.Reading.{At, text_read}
use Rattle.m2_exact.specs.m2_script.Outcome.{all_heard, left_in}
use Rattle.m2_exact.specs.m2_script.Script.{RunNow}
use Rattle.m2_scenario.specs.Kind.{number_of_kind}

-- ---- the scenario

-- the first bad line, by its number from 1 and the number of its kind
pub record BadAt : Type 0 where
  pub line : ℕ
  pub kind : ℕ

abbrev pub judged : Result Draft At → Result Draft BadAt
judged (Ok d) = Ok d
judged (Err at) = Err (record { line = at.line; kind = number_of_kind (kind_of at.flaw.wanted) })

-- the scenario that a file's bytes make, by the language of `sim`
abbrev pub scenario_in : List ℕ → Result Draft BadAt
scenario_in bytes = judged (text_read false bytes)

-- ---- its run

-- The scenario is a valid one. Its lines were done one after another, from new nodes to where they lead; and the promise of such a
-- run is kept.
pub record IsRunOf (d : Draft) (last : RunNow (List Logged)) : Type 0 where
  pub sound : IsSound d.nodes d.links d.lines
  pub lines : List Line
  pub made : map draft_line lines ≡ d.lines
  pub first : RunNow (List Logged)
  pub script : IsScriptRun d.nodes d.links lines first last
  pub promise : KeepsPromise d.nodes d.links lines last

-- whether a number of posts is left
abbrev pub status_by_count : ℕ → Status
status_by_count count = if count == 0 then Done else Left count

-- The status goes by how many posts are left where a run of the scenario leads, and the text is the report of it: a line for each
-- call of a dispatcher, node by node, as they came and not sorted.
pub record RunComesTo (d : Draft) (status : Status) (text : List ℕ) : Type 0 where
  pub last : RunNow (List Logged)
  pub run : IsRunOf d last
  pub counted : status ≡ status_by_count (left_in heard_by d.links last)
  pub report : text ≡ report_of false d.nodes (all_heard heard_by last)
  -- and so does every run of the scenario
  pub only : (other : RunNow (List Logged)) → IsRunOf d other → (status ≡ status_by_count (left_in heard_by d.links other)) × (text ≡ report_of false d.nodes (all_heard heard_by other))

-- the first bad line, and no text
pub record IsRefused (bad : BadAt) (status : Status) (text : List ℕ) : Type 0 where
  pub line : status ≡ BadScenario bad.line bad.kind
  pub empty : text ≡ []

abbrev pub ReadingComesTo : Result Draft BadAt → Status → List ℕ → Type 0
ReadingComesTo (Ok d) status text = RunComesTo d status text
ReadingComesTo (Err bad) status text = IsRefused bad status text

-- What a file's bytes come to: a run of their scenario, or the first bad line.
abbrev pub ComesTo : List ℕ → Status → List ℕ → Type 0
ComesTo bytes status text = ReadingComesTo (scenario_in bytes) status text
