-- What the program prints, which begins with sinks that took nothing.
use Rattle.std.proofs.Common.{◌≡◌, ℕ, List, [], ◌∷◌, ◌++◌, Option, None, Some, refl, sym, ◌∙◌, ap, subst, inl, inr}
use Rattle.m2_fabric.specs.Fabric.{SeenFabric}
use Rattle.m2_edge.specs.Sink.{SeenSink}
use Rattle.m2_scenario.specs.Text.{Word}
use Rattle.m2_cli.specs.declared.status.Status.{Status}
use Rattle.m2_cli.specs.declared.status.Status.TheVariants as status
use Rattle.m2_cli.specs.Edge.{Edge}
use Rattle.m2_cli.specs.Print.{Delivers, SaysStatus, unsaid}
use Rattle.m2_cli.specs.Program.{PrintsTheReport, PrintsTheLoad, PrintsWhereDone}
use Rattle.m2_cli.specs.Load.{IsLoadRun, LoadComesTo, RunsLoad}
use Rattle.m2_cli.specs.Ends.{Ends}
use Rattle.m2_cli.specs.Top.{IsRunToEnd, RunsFile}
use Rattle.m2_cli.specs.Verdict.{ComesTo}
use Rattle.m2_cli.specs.Form.{Form, sim_of, run_of, frames_of, load_of}

-- all that was taken is flushed, where nothing lay in the sink before
flushed_whole : (text : List ℕ) (old new : SeenSink) → Delivers text old new → old.taken ≡ [] → old.flushed ≡ [] → new.flushed ≡ text
flushed_whole [] old new d taken flushed = ap (λ (s : SeenSink). s.flushed) (d.untouched refl) ∙ flushed
flushed_whole (b ∷ bs) old new d taken flushed = d.flushed (λ none. absurd cc) ∙ d.taken ∙ ap (λ (t : List ℕ). t ++ (b ∷ bs)) taken

never_done : (work : Status) → unsaid work ≡ status.Done → ⊥
never_done status.Done e = absurd cc
never_done status.Usage e = absurd cc
never_done (status.BadScenario line kind) e = absurd cc
never_done status.ReadFault e = absurd cc
never_done status.WriteFault e = absurd cc
never_done (status.Left count) e = absurd cc
never_done status.NoMemory e = absurd cc
never_done (status.BadFrames place fault) e = absurd cc
never_done (status.BindFault node) e = absurd cc
never_done (status.Unfit socket opener place why) e = absurd cc
never_done (status.Stalled left) e = absurd cc

-- what was taken is the text, where nothing was taken before
taken_whole : (text : List ℕ) (old new : SeenSink) → Delivers text old new → old.taken ≡ [] → new.taken ≡ text
taken_whole text old new d taken = d.taken ∙ ap (λ (t : List ℕ). t ++ text) taken

prints_report : (file : List ℕ) (before after : Edge) → IsRunToEnd file status.Done before after → before.out.taken ≡ [] → before.out.flushed ≡ []
    → PrintsTheReport after.source after.out
prints_report file before after run taken flushed =
    let all : after.out.taken ≡ run.text = taken_whole run.text before.out after.out run.printed taken in
    let P : List ℕ → Type 0 = λ t. ComesTo after.source.given status.Done t in
    record {
      whole = run.read.whole;
      comes = subst P (sym all) run.comes;
      flushed = flushed_whole run.text before.out after.out run.printed taken flushed ∙ sym all;
    }

prints_load : (posts seed : ℕ) (before after : Edge) → IsLoadRun posts seed status.Done before after → before.out.taken ≡ [] → before.out.flushed ≡ []
    → PrintsTheLoad posts seed after.out
prints_load posts seed before after run taken flushed =
    let all : after.out.taken ≡ run.text = taken_whole run.text before.out after.out run.printed taken in
    let P : List ℕ → Type 0 = λ t. LoadComesTo posts seed status.Done t in
    record { comes = subst P (sym all) run.comes; flushed = flushed_whole run.text before.out after.out run.printed taken flushed ∙ sym all }

-- where Done is answered, the work came to it
said_done : (names : List Word) (Leaves : Status → Type 0) (work answered : Status) (before after : Edge) → SaysStatus names work answered before.err after.err → Leaves work
    → answered ≡ status.Done → Leaves status.Done
said_done names Leaves work answered before after (inl s) left e = subst Leaves (sym s.answer ∙ e) left
said_done names Leaves work answered before after (inr s) left e = absurd (never_done work (sym s.answer ∙ e))

pub program_done : (may_give : ℕ → Type 0) (old new : SeenFabric) (form : Option Form) (answered : Status) (before after : Edge) → Ends may_give old new form answered before after → before.out.taken ≡ []
    → before.out.flushed ≡ [] → PrintsWhereDone form answered after.source after.out
program_done may_give old new None answered before after ends taken flushed = tt
program_done may_give old new (Some (sim_of file)) answered before after ends taken flushed =
    λ e. prints_report file before after
    (said_done ends.names (λ x. RunsFile file x before after) ends.work answered before after ends.said ends.left e) taken flushed
program_done may_give old new (Some (run_of file)) answered before after ends taken flushed = tt
program_done may_give old new (Some (frames_of file)) answered before after ends taken flushed = tt
program_done may_give old new (Some (load_of posts seed)) answered before after ends taken flushed =
    λ e. prints_load posts seed before after
    (said_done ends.names (λ x. RunsLoad posts seed x before after) ends.work answered before after ends.said ends.left e) taken flushed
