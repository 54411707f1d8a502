-- A schedule's text: lines ended by a line feed, of which the last may lack it. This project's own.
use Rattle.std.specs.Prelude.{◌≡◌, ℕ, ◌+◌, nat_lt, Bool, if◌then◌else◌, List, [], ◌∷◌, length, take, Result, Ok, Err}
use Rattle.std.specs.Option.{is_some}
use Rattle.m2_scenario_text.specs.declared.bad_schedule.BadSchedule.{BadSchedule}
use Rattle.m2_scenario_text.specs.declared.bad_schedule.BadSchedule.TheVariants as bad
use Rattle.m2_scenario_text.specs.declared.reading.TheConstants.{MOST_BYTES}
use Rattle.m2_scenario_text.specs.declared.schedule.Schedule.{Schedule}
use Rattle.m2_scenario_text.specs.declared.verb.Verb.{Verb}
use Rattle.m2_scenario_text.specs.declared.verb.Verb.TheVariants as verb
use Rattle.m2_scenario_text.specs.Lines.{deed_by, pair_line}
use Rattle.m2_scenario_text.specs.Schedule.{Deed, Draft, draft_of, no_lines, with_deed}
use Rattle.m2_scenario_text.specs.Verb.{verb_of}
use Rattle.m2_scenario.specs.declared.kind.Kind.{Kind}
use Rattle.m2_scenario.specs.declared.kind.Kind.TheVariants as kind
use Rattle.m2_scenario.specs.Line.{is_clean, without_return, line_words}
use Rattle.m2_scenario.specs.Steps.{◌>>=◌, check, or_kind}
use Rattle.m2_scenario.specs.Text.{Word, pieces}

abbrev pub with_read : (line : ℕ) → Draft → Result Deed Kind → Result Draft Kind
with_read line d read = read >>= (λ deed. Ok (with_deed line d deed))

abbrev pub by_verb : (line : ℕ) → Draft → Verb → List Word → Result Draft Kind
by_verb line d verb.Pair ws = pair_line d ws
by_verb line d v ws = with_read line d (deed_by (is_some d.pair) v ws)

-- a line of no words is passed over
unfoldable pub words_line : (line : ℕ) → Draft → List Word → Result Draft Kind
words_line line d [] = Ok d
words_line line d (w ∷ ws) = do
  v ← or_kind kind.Unknown (verb_of w)
  by_verb line d v ws

unfoldable pub line_step : (line : ℕ) → Draft → Word → Result Draft Kind
line_step line d text = do
  _ ← check kind.Unknown (is_clean (without_return text))
  words_line line d (line_words text)

-- the first bad line, by its number from 1, with its kind
pub record At : Type 0 where
  pub line : ℕ
  pub kind : Kind

abbrev pub at : {A B : Type 0} → ℕ → Result A Kind → (A → Result B At) → Result B At
at n (Ok a) next = next a
at n (Err k) next = Err (record { line = n; kind = k })

-- The lines from the nth on. Where the file goes past its limit, the line in which the byte past it
-- stands is bad, whatever else is wrong with it.
abbrev pub lines_from : Bool → ℕ → Draft → List Word → Result Draft At
lines_from past n d [] = Ok d
lines_from past n d (l ∷ []) = if past then Err (record { line = n; kind = kind.Limit }) else at n (line_step n d l) (λ e. Ok e)
lines_from past n d (l ∷ m ∷ ls) = at n (line_step n d l) (λ e. lines_from past (n + 1) e (m ∷ ls))

unfoldable pub text_read : Word → Result Draft At
text_read text = lines_from (nat_lt MOST_BYTES (length text)) 1 no_lines (pieces 10 (take MOST_BYTES text))

-- Ok: the text makes the schedule. BadLine: its first bad line is this one.
abbrev pub Reads : Result Schedule BadSchedule → Result Draft At → Type 0
Reads (Ok s) asked = asked ≡ Ok (draft_of s)
Reads (Err (bad.BadLine line k)) asked = asked ≡ Err (record { line = line; kind = k })
Reads (Err bad.NoMemory) asked = Unit {0}

-- a line of the text, by its number
abbrev pub LineRead : Result (Unit {0}) BadSchedule → Result Draft Kind → ℕ → Draft → Type 0
LineRead (Ok _) step n new = step ≡ Ok new
LineRead (Err (bad.BadLine line k)) step n new = (step ≡ Err k) × (line ≡ n)
LineRead (Err bad.NoMemory) step n new = Unit {0}
