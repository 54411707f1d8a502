-- Lines one after another.
use Rattle.std.proofs.Common.{◌≡◌, ◌+◌, ◌<◌, ℕ, Bool, true, false, if◌then◌else◌, List, [], ◌∷◌, length, Result, Ok, Err, IsErrAnd, refl, sym, ◌∙◌, ap, arith}
use Rattle.m2_scenario.specs.declared.kind.Kind.TheVariants as kind
use Rattle.m2_scenario_text.specs.declared.bad_schedule.BadSchedule.{BadSchedule}
use Rattle.m2_scenario_text.specs.declared.bad_schedule.BadSchedule.TheVariants as bad
use Rattle.m2_scenario.specs.Text.{Word, pieces}
use Rattle.m2_scenario_text.specs.Schedule.{Draft}
use Rattle.m2_scenario_text.specs.declared.schedule.Schedule.{Schedule}
use Rattle.m2_scenario_text.specs.ScheduleReading.{line_step, lines_from, at, At, LineRead, Reads}
use Rattle.m2_scenario_text.proofs.LinesRead.{some_pieces}

some_more : (past : Bool) (n : ℕ) (d : Draft) (l : Word) (ls : List Word) → 0 < length ls
    → lines_from past n d (l ∷ ls) ≡ at n (line_step n d l) (λ e. lines_from past (n + 1) e ls)
some_more past n d l [] h = absurd (omega (arith, h))
some_more past n d l (m ∷ ls) h = refl

-- a line that others follow
pub line_before : (past : Bool) (n : ℕ) (d : Draft) (l more rest : Word) → pieces 10 rest ≡ l ∷ pieces 10 more
    → lines_from past n d (pieces 10 rest) ≡ at n (line_step n d l) (λ e. lines_from past (n + 1) e (pieces 10 more))
line_before past n d l more rest e = ap (lines_from past n d) e ∙ some_more past n d l (pieces 10 more) (some_pieces 10 more)

-- it is taken
pub line_taken : (past : Bool) (n : ℕ) (d e : Draft) (l more rest : Word) → pieces 10 rest ≡ l ∷ pieces 10 more → line_step n d l ≡ Ok e
    → lines_from past n d (pieces 10 rest) ≡ lines_from past (n + 1) e (pieces 10 more)
line_taken past n d e l more rest p s = line_before past n d l more rest p ∙ ap (λ r. at n r (λ e. lines_from past (n + 1) e (pieces 10 more))) s

-- a bad one ends the reading
pub bad_before : (past : Bool) (n : ℕ) (d new : Draft) (l more rest : Word) (b : BadSchedule) → pieces 10 rest ≡ l ∷ pieces 10 more
    → LineRead (Err b) (line_step n d l) n new → Reads (Err b) (lines_from past n d (pieces 10 rest))
bad_before past n d new l more rest (bad.BadLine m k) p s =
    line_before past n d l more rest p ∙ ap (λ r. at n r (λ e. lines_from past (n + 1) e (pieces 10 more))) s.0 ∙ ap (λ i. Err (record { line = i; kind = k })) (sym s.1)
bad_before past n d new l more rest bad.NoMemory p s = tt

last_is : (past : Bool) (n : ℕ) (d : Draft) (rest : Word) → past ≡ false → pieces 10 rest ≡ rest ∷ [] → lines_from past n d (pieces 10 rest) ≡ at n (line_step n d rest) (λ e. Ok e)
last_is past n d rest e p = ap (lines_from past n d) p ∙ ap (λ t. if t then Err (record { line = n; kind = kind.Limit }) else at n (line_step n d rest) (λ e. Ok e)) e

pub last_taken : (past : Bool) (n : ℕ) (d new : Draft) (rest : Word) → past ≡ false → pieces 10 rest ≡ rest ∷ [] → line_step n d rest ≡ Ok new → lines_from past n d (pieces 10 rest) ≡ Ok new
last_taken past n d new rest e p s = last_is past n d rest e p ∙ ap (λ r. at n r (λ e. Ok e)) s

pub bad_last : (past : Bool) (n : ℕ) (d new : Draft) (rest : Word) (b : BadSchedule) → past ≡ false → pieces 10 rest ≡ rest ∷ []
    → LineRead (Err b) (line_step n d rest) n new → Reads (Err b) (lines_from past n d (pieces 10 rest))
bad_last past n d new rest (bad.BadLine m k) e p s = last_is past n d rest e p ∙ ap (λ r. at n r (λ e. Ok e)) s.0 ∙ ap (λ i. Err (record { line = i; kind = k })) (sym s.1)
bad_last past n d new rest bad.NoMemory e p s = tt

-- the line in which the byte past the limit stands
pub past_line : (past : Bool) (n : ℕ) (d : Draft) (rest : Word) → past ≡ true → pieces 10 rest ≡ rest ∷ [] → lines_from past n d (pieces 10 rest) ≡ Err (record { line = n; kind = kind.Limit })
past_line past n d rest e p = ap (lines_from past n d) p ∙ ap (λ t. if t then Err (record { line = n; kind = kind.Limit }) else at n (line_step n d rest) (λ e. Ok e)) e

-- the same answer for an equal reading
pub same_answer : (r : Result Schedule BadSchedule) (asked other : Result Draft At) → asked ≡ other → Reads r other → Reads r asked
same_answer (Ok s) asked other e h = e ∙ h
same_answer (Err (bad.BadLine m k)) asked other e h = e ∙ h
same_answer (Err bad.NoMemory) asked other e h = tt

-- the error that a `?` hands on
pub handed_on : (r : Result Schedule BadSchedule) (b : BadSchedule) (asked : Result Draft At) → IsErrAnd r (λ e. e ≡ b) → Reads (Err b) asked → Reads r asked
handed_on (Ok s) b asked h read = absurd h
handed_on (Err e) b asked h read = rw h read
