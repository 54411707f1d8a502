-- What the top call leaves, by the form of its words.
use Rattle.std.specs.Prelude.{◌≡◌, ℕ, List, Option}
use Rattle.m2_fabric.specs.Fabric.{SeenFabric}
use Rattle.m2_scenario.specs.Text.{Word}
use Rattle.m2_cli.specs.declared.status.Status.{Status}
use Rattle.m2_cli.specs.Edge.{Edge}
use Rattle.m2_cli.specs.Form.{Form, MatchForm}
use Rattle.m2_cli.specs.Frames.{ListsFile}
use Rattle.m2_cli.specs.Load.{KeepsLoad, RunsLoad}
use Rattle.m2_cli.specs.Order.{KeepsOrder}
use Rattle.m2_cli.specs.ThreadsOrder.{KeepsThreadsOrder}
use Rattle.m2_cli.specs.Print.{SaysStatus}
use Rattle.m2_cli.specs.Threads.{RunsThreads, names_in}
use Rattle.m2_cli.specs.Top.{IsOfNoForm, RunsFile}

-- What a call of these words leaves. Its work came to a status, whose line was said on standard error and which is
-- answered; where standard error refused the line a write fault is answered, or NoMemory as before. What was read and
-- printed goes by the form of the words; with `run FILE` a line names a node by the file's name for it. `may_give`, `old`
-- and `new` are of the clock and of the fabric.
pub record Ends (may_give : ℕ → Type 0) (old new : SeenFabric) (form : Option Form) (answered : Status) (before after : Edge) : Type 0 where
  pub work : Status
  pub names : List Word
  pub said : SaysStatus names work answered before.err after.err
  pub left : MatchForm form (IsOfNoForm work before after) (λ file. RunsFile file work before after)
      (λ file. RunsThreads may_give old new file work before after × (names ≡ names_in after.source.given))
      (λ file. ListsFile file work before after) (λ posts seed. RunsLoad posts seed work before after)

-- With words of another form than `run FILE` the fabric is as it was.
abbrev pub KeepsFabric : Option Form → (old new : SeenFabric) → Type 0
KeepsFabric form old new = MatchForm form (new ≡ old) (λ _. new ≡ old) (λ _. Unit {0}) (λ _. new ≡ old) (λ _ _. new ≡ old)

-- The headline, by the form of the words: of `sim FILE` and `run FILE` said of what the file gave, what was printed and a run between
-- them, of `load N SEED` of the generated scenario and the three lines.
abbrev pub KeepsItsOrder : (may_give : ℕ → Type 0) → (old new : SeenFabric) → Option Form → Status → Edge → Edge → Type 0
KeepsItsOrder may_give old new form answered before after = MatchForm form (Unit {0}) (λ _. KeepsOrder answered before after)
    (λ _. KeepsThreadsOrder may_give old new answered before after) (λ _. Unit {0}) (λ posts seed. KeepsLoad posts seed answered before after)
