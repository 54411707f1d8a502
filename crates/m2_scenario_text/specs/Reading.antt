-- A scenario's text: lines ended by a line feed, of which the last may lack it.
use Rattle.std.specs.Prelude.{◌≡◌, ℕ, ◌+◌, nat_lt, Bool, if◌then◌else◌, ◌||◌, List, [], ◌∷◌, length, take, position, unwrap_or, Option, Some, None, Result, Ok, Err}
use Rattle.m2_scenario_text.specs.declared.flaw.Flaw.{Flaw}
use Rattle.m2_scenario_text.specs.declared.flaw.Wanted.TheVariants as wanted
use Rattle.m2_scenario_text.specs.Flaw.{◌>>=◌, at_byte, at_first, want_first}
use Rattle.m2_scenario_text.specs.declared.first_word.FirstWord.{FirstWord}
use Rattle.m2_scenario_text.specs.declared.first_word.FirstWord.TheVariants as first
use Rattle.m2_scenario_text.specs.declared.bad_scenario.BadScenario.{BadScenario}
use Rattle.m2_scenario_text.specs.declared.bad_scenario.BadScenario.TheVariants as bad
use Rattle.m2_scenario.specs.declared.scenario.Scenario.{Scenario}
use Rattle.m2_scenario.specs.Text.{Word, pieces}
use Rattle.m2_scenario.specs.Line.{is_clean, without_return, line_words}
use Rattle.m2_scenario_text.specs.declared.form.Form.{Form}
use Rattle.m2_scenario_text.specs.declared.reading.TheConstants.{MOST_BYTES}
use Rattle.m2_scenario_text.specs.FirstWord.{first_word_of}
use Rattle.m2_scenario_text.specs.Form.{form_of, has, line_of}
use Rattle.m2_scenario.specs.Draft.{Draft, no_lines, IsMade}
use Rattle.m2_scenario_text.specs.NodeLine.{node_line}
use Rattle.m2_scenario_text.specs.LinkLine.{link_line}
use Rattle.m2_scenario_text.specs.PlanLines.{post_line, dial_line, down_line}
use Rattle.m2_scenario_text.specs.SimLines.{cut_line, turn_line, flow_line, fault_line, settle_line}
use Rattle.m2_scenario_text.specs.RunLines.{off_line, limit_line}

-- one case a line form
abbrev pub by_first_word : Draft → FirstWord → List Word → Result Draft Flaw
by_first_word d first.Node ws = node_line d ws
by_first_word d first.Link ws = link_line d ws
by_first_word d first.Post ws = post_line d ws
by_first_word d first.Dial ws = dial_line d ws
by_first_word d first.Down ws = down_line d ws
by_first_word d first.Cut ws = cut_line d ws
by_first_word d first.Turn ws = turn_line d ws
by_first_word d first.Flow ws = flow_line d ws
by_first_word d first.Fault ws = fault_line d ws
by_first_word d first.Settle ws = settle_line d ws
by_first_word d first.Off ws = off_line d ws
by_first_word d first.Limit ws = limit_line d ws

-- what is there, or else the first word of a form of line is wanted
abbrev pub or_form : Option FirstWord → Result FirstWord Flaw
or_form (Some k) = Ok k
or_form None = Err (at_first wanted.FormOfLine)

-- a line of no words is passed over
unfoldable pub words_line : Form → Draft → List Word → Result Draft Flaw
words_line form d [] = Ok d
words_line form d (w ∷ ws) = do
  k ← or_form (first_word_of w)
  _ ← want_first (line_of form) (has form k)
  by_first_word d k ws

-- a byte outside 0x20 to 0x7E
abbrev pub is_unprintable : ℕ → Bool
is_unprintable b = nat_lt b 32 || nat_lt 126 b

-- the first such byte of a line, by how many stand before it; 0 where there is none
abbrev pub unprintable : Word → ℕ
unprintable line = unwrap_or (position is_unprintable line) 0

unfoldable pub clean : Word → Result (Unit {0}) Flaw
clean line = if is_clean (without_return line) then Ok tt else Err (at_byte (unprintable line) wanted.PrintableByte)

unfoldable pub line_step : Form → Draft → Word → Result Draft Flaw
line_step form d line = do
  _ ← clean line
  words_line form d (line_words line)

-- the first bad line, by its number from 1, with what is bad in it
pub record At : Type 0 where
  pub line : ℕ
  pub flaw : Flaw

abbrev pub at : {A B : Type 0} → ℕ → Result A Flaw → (A → Result B At) → Result B At
at n (Ok a) next = next a
at n (Err f) next = Err (record { line = n; flaw = f })

-- The lines from the nth on. Where the file goes past its limit, the line in which the byte past it
-- stands is bad at that byte, whatever else is wrong with it.
abbrev pub lines_from : Form → Bool → ℕ → Draft → List Word → Result Draft At
lines_from form past n d [] = Ok d
lines_from form past n d (l ∷ []) = if past then Err (record { line = n; flaw = at_byte (length l) wanted.SmallerFile }) else at n (line_step form d l) (λ e. Ok e)
lines_from form past n d (l ∷ m ∷ ls) = at n (line_step form d l) (λ e. lines_from form past (n + 1) e (m ∷ ls))

-- a text of `run`, or else of `sim`
unfoldable pub text_read : Bool → Word → Result Draft At
text_read run text = lines_from (form_of run) (nat_lt MOST_BYTES (length text)) 1 no_lines (pieces 10 (take MOST_BYTES text))

-- Ok: the text makes the scenario. BadLine: its first bad line is this one, and bad in this way.
abbrev pub Reads : Bool → Word → Result Scenario BadScenario → Type 0
Reads run text (Ok s) = (d : Draft) × (text_read run text ≡ Ok d) × IsMade s d
Reads run text (Err (bad.BadLine line f)) = text_read run text ≡ Err (record { line = line; flaw = f })
Reads run text (Err bad.NoMemory) = Unit {0}

-- the draft in memory that all lines make
abbrev pub DraftRead : Result Draft BadScenario → Result Draft At → Type 0
DraftRead (Ok d) asked = asked ≡ Ok d
DraftRead (Err (bad.BadLine line f)) asked = asked ≡ Err (record { line = line; flaw = f })
DraftRead (Err bad.NoMemory) asked = Unit {0}

-- a line of the text, by its number
abbrev pub LineRead : Result (Unit {0}) BadScenario → Result Draft Flaw → ℕ → Draft → Type 0
LineRead (Ok _) step n new = step ≡ Ok new
LineRead (Err (bad.BadLine line f)) step n new = (step ≡ Err f) × (line ≡ n)
LineRead (Err bad.NoMemory) step n new = Unit {0}
