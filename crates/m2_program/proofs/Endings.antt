-- A text written, and a status said.
use Rattle.std.proofs.Common.{◌≡◌, ℕ, List, length, Result, Ok, Err, refl, sym, ◌∙◌, subst}
use Rattle.std.specs.Prelude.{◌≢◌}
use Rattle.std.proofs.Math.Seq.{take-length}
use Rattle.m2_edge.specs.declared.failed.Failed.{Failed}
use Rattle.m2_edge.specs.Sink.{SeenSink, TakesBytes, TakesPrefix, FlushesAll}
use Rattle.m2_program.specs.declared.status.ProgramStatus.{ProgramStatus}
use Rattle.m2_program.specs.declared.status.ProgramStatus.TheVariants as status
use Rattle.m2_program.specs.Running.{SaysAs}
use Rattle.m2_program.specs.Status.{line_of}
use Rattle.m2_program.specs.Writing.{Prints, PrintsText}

-- what was taken whole was taken by its prefix
pub prefix_whole : (text : List ℕ) (old new : SeenSink) → TakesBytes text old new → TakesPrefix text old new
prefix_whole text old new h = let P : List ℕ → Type 0 = λ t. TakesBytes t old new in (length text, subst P (sym (take-length text)) h)

-- a text, and then a flush
pub prints_flushed : (r : Result (Unit {0}) Failed) (text : List ℕ) (old mid new : SeenSink) → TakesBytes text old mid → new.taken ≡ mid.taken
    → FlushesAll r mid new → PrintsText r text old new
prints_flushed (Ok u) text old mid new h e f = record { taken = e ∙ h; flushed = f }
prints_flushed (Err u) text old mid new h e f = prefix_whole text old new (e ∙ h)

-- a status whose line was said whole
pub says_line : (s : ProgramStatus) (usage : List ℕ) (old new : SeenSink) → s ≢ status.Done → Prints (line_of usage s) old new → SaysAs s usage old new
says_line status.Done usage old new some p = absurd (some refl)
says_line status.Usage usage old new some p = p
says_line (status.BadLine complaint) usage old new some p = p
says_line status.ReadFault usage old new some p = p
says_line status.WriteFault usage old new some p = tt
says_line status.NoMemory usage old new some p = prefix_whole (line_of usage status.NoMemory) old new p.taken
