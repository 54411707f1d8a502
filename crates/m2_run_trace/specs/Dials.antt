-- Why connects were due, as words. This project's own.
use Rattle.std.specs.Prelude.{ℕ, List, [], drop, length, take, Option, Some, None}
use Rattle.m2_journal.specs.declared.entry.Entry.{Entry}
use Rattle.m2_promise.specs.m2_script.m2_record.m2_core.LiveNow.{is_waiting}
use Rattle.m2_promise.specs.m2_script.m2_record.RecordNow.{RecordNow}
use Rattle.m2_run_trace.specs.declared.dials.DialMark.{DialMark}
use Rattle.m2_trace.specs.Dials.{cause_behind, cause_of, cause_word}
use Rattle.m2_trace.specs.Words.{Text}

-- a record, and where it was marked before it did something
pub record MarkedNow : Type 0 where
  pub kept : RecordNow
  pub mark : Option DialMark

abbrev pub with_mark : RecordNow → Option DialMark → MarkedNow
with_mark r mark = record { kept = r; mark = mark }

-- how many entries its journal has, and what makes a connect of it due
abbrev pub dial_mark_of : RecordNow → DialMark
dial_mark_of r = record { entries = length r.journal; cause = cause_of r.core.live.session (is_waiting r.core.live) r.core.dials }

-- what made a connect due that its journal tells at a place, by the mark and by the entries since then
abbrev pub dial_word_by : Option DialMark → List Entry → (place : ℕ) → Text
dial_word_by (Some m) journal place = cause_word (cause_behind m.cause (drop m.entries (take place journal)))
dial_word_by None journal place = []

abbrev pub dial_word : MarkedNow → (place : ℕ) → Text
dial_word m place = dial_word_by m.mark m.kept.journal place
