-- What the top call leaves, by what its work came to.
use Rattle.std.specs.Prelude.{◌≡◌, List, ℕ}
use Rattle.m2_edge.specs.Sink.{TakesPrefix}
use Rattle.m2_cli.specs.declared.status.Status.{Status}
use Rattle.m2_cli.specs.declared.status.Status.TheVariants.{Done, Usage, BadScenario, ReadFault, WriteFault, BindFault, Unfit, Stalled, Left, NoMemory, BadFrames}
use Rattle.m2_cli.specs.Edge.{Edge, SourceFailed, OutFailed, StandsSomewhere, IsReadWhole}
use Rattle.m2_cli.specs.Print.{Delivers}
use Rattle.m2_cli.specs.Verdict.{ComesTo}
use Rattle.m2_cli.specs.Load.{IsUntouched}

-- the words are of no form: the work is to say so
pub record IsOfNoForm (work : Status) (before after : Edge) : Type 0 where
  pub usage : work ≡ Usage
  pub untouched : IsUntouched before after

-- the file was read whole, its bytes come to this status and a text, and standard output took exactly that text, flushed
pub record IsRunToEnd (file : List ℕ) (work : Status) (before after : Edge) : Type 0 where
  pub read : IsReadWhole file before.source after.source
  pub text : List ℕ
  pub comes : ComesTo after.source.given work text
  pub printed : Delivers text before.out after.out

-- the file was read whole, its bytes come to a status and a text, standard output failed, and took a prefix of that text
pub record IsRunInPart (file : List ℕ) (before after : Edge) : Type 0 where
  pub read : IsReadWhole file before.source after.source
  pub failed : OutFailed before after
  pub status : Status
  pub text : List ℕ
  pub comes : ComesTo after.source.given status text
  pub printed : TakesPrefix text before.out after.out

-- nothing was printed; the file may have been read in part
pub record IsNotRun (file : List ℕ) (before after : Edge) : Type 0 where
  pub stands : StandsSomewhere file before.source after.source
  pub unprinted : after.out ≡ before.out

-- What `sim FILE` leaves, by what its work came to.
-- Done, Left and BadScenario: the file was read whole, a run of its scenario (or its first bad line) comes to exactly that, and the
-- report of that run was printed whole; a bad scenario's is empty. WriteFault: standard output failed, and has a prefix of the report.
-- ReadFault and NoMemory: nothing was printed. It never comes to the other statuses.
abbrev pub RunsFile : List ℕ → Status → Edge → Edge → Type 0
RunsFile file Done before after = IsRunToEnd file Done before after
RunsFile file (Left count) before after = IsRunToEnd file (Left count) before after
RunsFile file (BadScenario line kind) before after = IsRunToEnd file (BadScenario line kind) before after
RunsFile file WriteFault before after = IsRunInPart file before after
RunsFile file ReadFault before after = SourceFailed before after × IsNotRun file before after
RunsFile file NoMemory before after = IsNotRun file before after
RunsFile file Usage before after = ⊥
RunsFile file (BadFrames place fault) before after = ⊥
RunsFile file (BindFault node) before after = ⊥
RunsFile file (Unfit socket opener place why) before after = ⊥
RunsFile file (Stalled left) before after = ⊥
