-- What is promised of traces.
use Rattle.std.specs.Prelude.{◌≡◌, List}
use Rattle.m2_journal.specs.Replay.{replay}
use Rattle.m2_promise.specs.m2_script.m2_record.IsRecord.{IsRecord}
use Rattle.m2_promise.specs.m2_script.m2_record.RecordNow.{RecordNow, speaks_of}
use Rattle.m2_run_trace.specs.Dials.{dial_mark_of}
use Rattle.m2_run_trace.specs.Tracing.{IsTrace}
use Rattle.m2_scenario.specs.declared.line.Line.{Line}
use Rattle.m2_scenario.specs.declared.link.Link.{Link}
use Rattle.m2_scenario.specs.declared.node.Node.{Node}
use Rattle.m2_fabric.specs.declared.cut_end.CutEnd.{CutEnd}
use Rattle.m2_fabric.specs.declared.sim_end.SimEnd.{SimEnd}
use Rattle.m2_promise.specs.Started.{IsScriptRun}
use Rattle.m2_scenario.specs.Text.{Word}
use Rattle.m2_trace.specs.Dials.{cause_in}

-- The run of a trace is one of the scenario's lines, done one after another, as that of `sim` is; so what is promised of such a run
-- holds of it.
abbrev pub TracesAreOfRuns : Type 0
TracesAreOfRuns = (nodes : List Node) (links : List Link) (lines : List Line) (text trace : Word) (t : IsTrace nodes links lines text trace) →
    IsScriptRun (CutEnd SimEnd) nodes links lines t.run t.last.run

-- Where a record is marked, what makes a connect of it due is that where its journal leads.
abbrev pub MarksAreOfJournals : Type 0
MarksAreOfJournals = (r : RecordNow) → IsRecord r → (dial_mark_of r).cause ≡ cause_in (replay r.core.facts (speaks_of r) r.journal)
