-- Which text has a trace, and which it is. This project's own.
use Rattle.std.specs.Prelude.{◌≡◌, ℕ, List, false, Result, Ok, Err}
use Rattle.m2_bytes.specs.Blob.{Contents}
use Rattle.m2_run_trace.specs.Acts.{MemoryRun, PlaysAll, StageNow, acts_of, first_stage}
use Rattle.m2_run_trace.specs.declared.tracing.Untraced.{Untraced}
use Rattle.m2_run_trace.specs.declared.tracing.Untraced.TheVariants as untraced
use Rattle.m2_scenario.specs.declared.line.Line.{Line}
use Rattle.m2_scenario.specs.declared.link.Link.{Link}
use Rattle.m2_scenario.specs.declared.node.Node.{Node}
use Rattle.m2_scenario.specs.declared.scenario.Scenario.{Scenario}
use Rattle.m2_scenario.specs.Draft.{Draft, IsMade}
use Rattle.m2_scenario_text.specs.Reading.{text_read}
use Rattle.m2_promise.specs.Started.{IsFirst}
use Rattle.m2_scenario.specs.Text.{Word, pieces}

-- From new nodes the acts of the lines are played one after another, and this is what they print.
pub record IsTrace (nodes : List Node) (links : List Link) (lines : List Line) (text trace : Word) : Type 0 where
  pub run : MemoryRun
  pub last : StageNow
  pub first : IsFirst nodes links lines run
  pub plays : PlaysAll nodes (acts_of nodes links (pieces 10 text) lines) (first_stage run) last
  pub prints : trace ≡ last.text

-- The text is that of a scenario, and this is the trace of a run of it.
pub record IsTraceOf (text trace : Word) : Type 0 where
  pub draft : Draft
  pub scenario : Scenario
  pub read : text_read false text ≡ Ok draft
  pub made : IsMade scenario draft
  pub traced : IsTrace scenario.nodes.items scenario.links.items scenario.lines.items text trace

-- Ok: the text is a scenario, and has this trace. BadLine: its first bad line.
abbrev pub Traces : Result Contents Untraced → List ℕ → Type 0
Traces (Ok trace) bytes = IsTraceOf bytes trace.bytes
Traces (Err (untraced.BadLine line f)) bytes = text_read false bytes ≡ Err (record { line = line; flaw = f })
Traces (Err untraced.NoMemory) bytes = Unit {0}
