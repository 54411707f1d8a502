-- Printing a report on standard output, and saying a status on standard error.
use Rattle.std.specs.Prelude.{◌≡◌, ◌≢◌, ◌⊎◌, List, ℕ, [], Result, Ok, Err}
use Rattle.m2_edge.specs.Faults.{HasRisen}
use Rattle.m2_edge.specs.Sink.{SeenSink, TakesBytes, TakesPrefix, IsFlushed}
use Rattle.m2_edge.specs.declared.failed.Failed.{Failed}
use Rattle.m2_scenario.specs.Text.{Word}
use Rattle.m2_cli.specs.declared.status.Status.{Status}
use Rattle.m2_cli.specs.declared.status.Status.TheVariants.{Done, Usage, BadScenario, ReadFault, WriteFault, BindFault, Unfit, Stalled, Left, NoMemory, BadFrames}
use Rattle.m2_cli.specs.Status.{line_of}
use Rattle.m2_cli.specs.declared.printout.Printout.{Printout}

-- a text was taken whole, and flushed; an empty one needs no call
pub record Delivers (text : List ℕ) (old new : SeenSink) : Type 0 where
  pub taken : TakesBytes text old new
  pub flushed : text ≢ [] → IsFlushed new
  pub untouched : text ≡ [] → new ≡ old

-- Ok: the text was taken whole, and flushed. Err: a prefix of it was taken.
abbrev pub DeliversText : Result (Unit {0}) Failed → List ℕ → SeenSink → SeenSink → Type 0
DeliversText (Ok _) text old new = Delivers text old new
DeliversText (Err _) text old new = TakesPrefix text old new

-- what is answered where standard error refused the line of a status
abbrev pub unsaid : Status → Status
unsaid Done = WriteFault
unsaid Usage = WriteFault
unsaid (BadScenario line kind) = WriteFault
unsaid ReadFault = WriteFault
unsaid WriteFault = WriteFault
unsaid (Left count) = WriteFault
unsaid NoMemory = NoMemory
unsaid (BadFrames place fault) = WriteFault
unsaid (BindFault node) = WriteFault
unsaid (Unfit socket opener place why) = WriteFault
unsaid (Stalled left) = WriteFault

-- the line of what the work came to was said whole, and that is answered
pub record IsSaid (names : List Word) (work answered : Status) (old new : SeenSink) : Type 0 where
  pub answer : answered ≡ work
  pub line : Delivers (line_of names work) old new

-- standard error failed, and a prefix of that line was said
pub record IsRefused (names : List Word) (work answered : Status) (old new : SeenSink) : Type 0 where
  pub answer : answered ≡ unsaid work
  pub failed : HasRisen old.faults new.faults
  pub line : TakesPrefix (line_of names work) old new

-- How what the work came to was said and answered. Either its whole line stands on standard error and the work's
-- status is answered, or standard error failed, has a prefix of that line, and `unsaid` is answered.
abbrev pub SaysStatus : (names : List Word) → Status → Status → SeenSink → SeenSink → Type 0
SaysStatus names work answered old new = IsSaid names work answered old new ⊎ IsRefused names work answered old new

-- What printing came to: the report was taken whole, and the work is at its status; or standard output failed, and
-- took a prefix.
abbrev pub PrintsReport : Printout → Status → SeenSink → SeenSink → Type 0
PrintsReport p work old new =
    ((work ≡ p.status) × Delivers p.report.bytes old new)
    ⊎ ((work ≡ WriteFault) × HasRisen old.faults new.faults × TakesPrefix p.report.bytes old new)
