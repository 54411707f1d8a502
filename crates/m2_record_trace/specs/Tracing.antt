-- Which trace a schedule has. This project's own.
use Rattle.std.specs.Prelude.{◌≡◌, ℕ, List, [], Option, Some, None, Result, Ok, Err}
use Rattle.m2_bytes.specs.Blob.{Contents}
use Rattle.m2_record.specs.IsRecord.{IsRecord}
use Rattle.m2_record_trace.specs.PairNow.{PairNow}
use Rattle.m2_record_trace.specs.declared.tracing.Untraced.{Untraced}
use Rattle.m2_record_trace.specs.declared.tracing.Untraced.TheVariants as untraced
use Rattle.m2_record_trace.specs.Trace.{trace_of}
use Rattle.m2_scenario_text.specs.declared.schedule.PairFacts.{PairFacts}
use Rattle.m2_scenario_text.specs.ScheduleReading.{text_read}
use Rattle.m2_scenario_text.specs.Schedule.{Draft}

-- both sides are records: each is the replay of its journal
pub record AreRecords (p : PairNow) : Type 0 where
  pub first : IsRecord p.first.kept
  pub second : IsRecord p.second.kept

-- a text is the trace of two records
pub record IsTraceOfRecords (text : List ℕ) : Type 0 where
  pub pair : PairNow
  pub records : AreRecords pair
  pub is_its : text ≡ trace_of pair

-- without a pair there is none
abbrev pub IsTraceWith : Option PairFacts → List ℕ → Type 0
IsTraceWith (Some facts) text = IsTraceOfRecords text
IsTraceWith None text = text ≡ []

-- the bytes are a schedule, and this is a trace of it
pub record HasTrace (bytes text : List ℕ) : Type 0 where
  pub draft : Draft
  pub read : text_read bytes ≡ Ok draft
  pub trace : IsTraceWith draft.pair text

-- Ok: the text is that of two records. BadLine: the first bad line. NoSocket: the lines are good.
abbrev pub Traces : Result Contents Untraced → List ℕ → Type 0
Traces (Ok text) bytes = HasTrace bytes text.bytes
Traces (Err (untraced.BadLine line k)) bytes = text_read bytes ≡ Err (record { line = line; kind = k })
Traces (Err (untraced.NoSocket line)) bytes = (d : Draft) × (text_read bytes ≡ Ok d)
Traces (Err untraced.NoMemory) bytes = Unit {0}
