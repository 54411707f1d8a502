-- A text written, and a status said.
use Rattle.std.proofs.Common.{◌≡◌, ℕ, List, [], ◌++◌, Result, Ok, Err, refl, sym, ◌∙◌, ap, subst, append-nil, inl, inr}
use Rattle.std.specs.Prelude.{◌≢◌}
use Rattle.m2_edge.specs.Faults.{HasRisen}
use Rattle.m2_edge.specs.Sink.{SeenSink, TakesPrefix}
use Rattle.m2_edge.specs.declared.failed.Failed.{Failed}
use Rattle.m2_program.specs.Writing.{PrintsText}
use Rattle.m2_scenario.specs.Text.{Word}
use Rattle.m2_cli.specs.declared.printout.Printout.{Printout}
use Rattle.m2_cli.specs.declared.status.Status.{Status}
use Rattle.m2_cli.specs.declared.status.Status.TheVariants as status
use Rattle.m2_cli.specs.Edge.{Edge, IsCause}
use Rattle.m2_cli.specs.Print.{Delivers, DeliversText, SaysStatus, PrintsReport, unsaid}
use Rattle.m2_cli.specs.Status.{line_of}

-- an empty text, with no call
pub delivers_nothing : (text : List ℕ) (s : SeenSink) → text ≡ [] → Delivers text s s
delivers_nothing text s none = record {
  taken = sym (ap (λ t. s.taken ++ t) none ∙ append-nil s.taken);
  flushed = λ some. absurd (some none);
  untouched = λ _. refl;
}

-- a text that was printed
pub delivers_printed : (r : Result (Unit {0}) Failed) (text : List ℕ) (old new : SeenSink) → text ≢ [] → PrintsText r text old new → DeliversText r text old new
delivers_printed (Ok u) text old new some p = record { taken = p.taken; flushed = λ _. p.flushed; untouched = λ none. absurd (some none) }
delivers_printed (Err u) text old new some p = p

pub says_whole : (names : List Word) (s : Status) (line : List ℕ) (old new : SeenSink) → line ≡ line_of names s → Delivers line old new → SaysStatus names s s old new
says_whole names s line old new e d = let P : List ℕ → Type 0 = λ t. Delivers t old new in inl (record { answer = refl; line = subst P e d })

pub says_prefix : (names : List Word) (s answered : Status) (line : List ℕ) (old new : SeenSink) → line ≡ line_of names s → answered ≡ unsaid s
    → HasRisen old.faults new.faults → TakesPrefix line old new → SaysStatus names s answered old new
says_prefix names s answered line old new e a risen h =
    let P : List ℕ → Type 0 = λ t. TakesPrefix t old new in inr (record { answer = a; failed = risen; line = subst P e h })

-- a line that names no node
pub says_named : (names : List Word) (s answered : Status) (old new : SeenSink) → line_of [] s ≡ line_of names s → SaysStatus [] s answered old new → SaysStatus names s answered old new
says_named names s answered old new e (inl said) = inl (record { answer = said.answer; line = subst (λ (t : List ℕ). Delivers t old new) e said.line })
says_named names s answered old new e (inr said) =
    inr (record { answer = said.answer; failed = said.failed; line = subst (λ (t : List ℕ). TakesPrefix t old new) e said.line })

-- a report that was written whole
pub prints_whole : (p : Printout) (text : List ℕ) (old new : SeenSink) → text ≡ p.report.bytes → Delivers text old new → PrintsReport p p.status old new
prints_whole p text old new e d = let P : List ℕ → Type 0 = λ t. Delivers t old new in inl (refl, subst P e d)

pub prints_prefix : (p : Printout) (text : List ℕ) (old new : SeenSink) → text ≡ p.report.bytes → HasRisen old.faults new.faults
    → TakesPrefix text old new → PrintsReport p status.WriteFault old new
prints_prefix p text old new e risen h = let P : List ℕ → Type 0 = λ t. TakesPrefix t old new in inr (refl, risen, subst P e h)

-- ---- the cause of what is answered

unsaid_caused : (work : Status) (before after : Edge) → HasRisen before.err.faults after.err.faults → IsCause (unsaid work) before after
unsaid_caused status.Done before after risen = inr risen
unsaid_caused status.Usage before after risen = inr risen
unsaid_caused (status.BadScenario line kind) before after risen = inr risen
unsaid_caused status.ReadFault before after risen = inr risen
unsaid_caused status.WriteFault before after risen = inr risen
unsaid_caused (status.Left count) before after risen = inr risen
unsaid_caused status.NoMemory before after risen = tt
unsaid_caused (status.BadFrames place fault) before after risen = inr risen
unsaid_caused (status.BindFault node) before after risen = inr risen
unsaid_caused (status.Unfit socket opener place why) before after risen = inr risen
unsaid_caused (status.Stalled left) before after risen = inr risen

pub said_caused : (names : List Word) (work answered : Status) (before after : Edge) → IsCause work before after → SaysStatus names work answered before.err after.err → IsCause answered before after
said_caused names work answered before after cause (inl s) = let P : Status → Type 0 = λ x. IsCause x before after in subst P (sym s.answer) cause
said_caused names work answered before after cause (inr s) =
    let P : Status → Type 0 = λ x. IsCause x before after in subst P (sym s.answer) (unsaid_caused work before after s.failed)
