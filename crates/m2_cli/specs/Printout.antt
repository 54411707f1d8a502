-- What is to be printed, made before anything is written.
use Rattle.std.specs.Prelude.{◌≡◌, ℕ, List, [], Result, Ok, Err}
use Rattle.m2_scenario.specs.Text.{Word}
use Rattle.m2_edge.specs.Source.{SeenSource}
use Rattle.m2_edge.specs.declared.whole.ReadFault.{ReadFault}
use Rattle.m2_cli.specs.declared.printout.Printout.{Printout}
use Rattle.m2_cli.specs.declared.status.Status.{Status}
use Rattle.m2_cli.specs.Edge.{IsReadWhole, StandsSomewhere}
use Rattle.m2_cli.specs.Status.{line_of}
use Rattle.m2_cli.specs.Verdict.{ComesTo}

-- a printout of this status and report, with the status's line
pub record IsPrintout (names : List Word) (p : Printout) (s : Status) (text : List ℕ) : Type 0 where
  pub status : p.status ≡ s
  pub report : p.report.bytes ≡ text
  pub line : p.line.bytes ≡ line_of names p.status

-- a printout of a status and a report to which the work comes, with the status's line
pub record IsPrintoutBy (names : List Word) (Comes : Status → List ℕ → Type 0) (p : Printout) : Type 0 where
  pub comes : Comes p.status p.report.bytes
  pub line : p.line.bytes ≡ line_of names p.status

-- the printout of all that the source gave of a file
pub record IsPrintoutOf (p : Printout) (file : List ℕ) (old new : SeenSource) : Type 0 where
  pub read : IsReadWhole file old new
  pub printout : IsPrintoutBy [] (ComesTo new.given) p

-- The printout of a file. Err: the file was read in part, or not at all.
abbrev pub PreparesFile : Result Printout ReadFault → List ℕ → SeenSource → SeenSource → Type 0
PreparesFile (Ok p) file old new = IsPrintoutOf p file old new
PreparesFile (Err _) file old new = StandsSomewhere file old new
