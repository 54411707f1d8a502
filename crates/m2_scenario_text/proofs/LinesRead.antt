-- Lines one after another.
use Rattle.std.proofs.Common.{◌≡◌, ◌==◌, ◌+◌, ◌<◌, ℕ, Bool, true, false, if◌then◌else◌, List, [], ◌∷◌, length, Result, Ok, Err, IsErrAnd, refl, sym, ◌∙◌, ap, arith}
use Rattle.m2_scenario_text.specs.declared.flaw.Wanted.TheVariants as wanted
use Rattle.m2_scenario_text.specs.Flaw.{at_byte}
use Rattle.m2_scenario_text.specs.declared.bad_scenario.BadScenario.{BadScenario}
use Rattle.m2_scenario_text.specs.declared.bad_scenario.BadScenario.TheVariants as bad
use Rattle.m2_scenario.specs.Text.{Word, pieces, glued}
use Rattle.m2_scenario.specs.Draft.{Draft}
use Rattle.m2_scenario_text.specs.declared.form.Form.{Form}
use Rattle.m2_scenario_text.specs.Reading.{line_step, lines_from, at, At, LineRead, DraftRead}

pub some_glued : (b : ℕ) (ps : List Word) → 0 < length (glued b ps)
some_glued b [] = omega arith
some_glued b (p ∷ ps) = omega arith

pub some_either : (t : Bool) (ps qs : List Word) → 0 < length ps → 0 < length qs → 0 < length (if t then ps else qs)
some_either true ps qs h k = h
some_either false ps qs h k = k

-- there is always a piece
pub some_pieces : (mark : ℕ) (bs : Word) → 0 < length (pieces mark bs)
some_pieces mark [] = omega arith
some_pieces mark (b ∷ bs) = some_either (b == mark) ([] ∷ pieces mark bs) (glued b (pieces mark bs)) (omega arith) (some_glued b (pieces mark bs))

some_more : (form : Form) (past : Bool) (n : ℕ) (d : Draft) (l : Word) (ls : List Word) → 0 < length ls
    → lines_from form past n d (l ∷ ls) ≡ at n (line_step form d l) (λ e. lines_from form past (n + 1) e ls)
some_more form past n d l [] h = absurd (omega (arith, h))
some_more form past n d l (m ∷ ls) h = refl

-- a line that others follow
pub line_before : (form : Form) (past : Bool) (n : ℕ) (d : Draft) (l more rest : Word) → pieces 10 rest ≡ l ∷ pieces 10 more
    → lines_from form past n d (pieces 10 rest) ≡ at n (line_step form d l) (λ e. lines_from form past (n + 1) e (pieces 10 more))
line_before form past n d l more rest e = ap (lines_from form past n d) e ∙ some_more form past n d l (pieces 10 more) (some_pieces 10 more)

-- it is taken
pub line_taken : (form : Form) (past : Bool) (n : ℕ) (d e : Draft) (l more rest : Word) → pieces 10 rest ≡ l ∷ pieces 10 more → line_step form d l ≡ Ok e
    → lines_from form past n d (pieces 10 rest) ≡ lines_from form past (n + 1) e (pieces 10 more)
line_taken form past n d e l more rest p s = line_before form past n d l more rest p ∙ ap (λ r. at n r (λ e. lines_from form past (n + 1) e (pieces 10 more))) s

-- a bad one ends the reading
pub bad_before : (form : Form) (past : Bool) (n : ℕ) (d new : Draft) (l more rest : Word) (b : BadScenario) → pieces 10 rest ≡ l ∷ pieces 10 more
    → LineRead (Err b) (line_step form d l) n new → DraftRead (Err b) (lines_from form past n d (pieces 10 rest))
bad_before form past n d new l more rest (bad.BadLine m f) p s =
    line_before form past n d l more rest p ∙ ap (λ r. at n r (λ e. lines_from form past (n + 1) e (pieces 10 more))) s.0 ∙ ap (λ i. Err (record { line = i; flaw = f })) (sym s.1)
bad_before form past n d new l more rest bad.NoMemory p s = tt

last_is : (form : Form) (past : Bool) (n : ℕ) (d : Draft) (rest : Word) → past ≡ false → pieces 10 rest ≡ rest ∷ [] → lines_from form past n d (pieces 10 rest) ≡ at n (line_step form d rest) (λ e. Ok e)
last_is form past n d rest e p = ap (lines_from form past n d) p ∙ ap (λ t. if t then Err (record { line = n; flaw = at_byte (length rest) wanted.SmallerFile }) else at n (line_step form d rest) (λ e. Ok e)) e

pub last_taken : (form : Form) (past : Bool) (n : ℕ) (d new : Draft) (rest : Word) → past ≡ false → pieces 10 rest ≡ rest ∷ [] → line_step form d rest ≡ Ok new → lines_from form past n d (pieces 10 rest) ≡ Ok new
last_taken form past n d new rest e p s = last_is form past n d rest e p ∙ ap (λ r. at n r (λ e. Ok e)) s

pub bad_last : (form : Form) (past : Bool) (n : ℕ) (d new : Draft) (rest : Word) (b : BadScenario) → past ≡ false → pieces 10 rest ≡ rest ∷ []
    → LineRead (Err b) (line_step form d rest) n new → DraftRead (Err b) (lines_from form past n d (pieces 10 rest))
bad_last form past n d new rest (bad.BadLine m f) e p s = last_is form past n d rest e p ∙ ap (λ r. at n r (λ e. Ok e)) s.0 ∙ ap (λ i. Err (record { line = i; flaw = f })) (sym s.1)
bad_last form past n d new rest bad.NoMemory e p s = tt

-- the line in which the byte past the limit stands
pub past_line : (form : Form) (past : Bool) (n : ℕ) (d : Draft) (rest : Word) → past ≡ true → pieces 10 rest ≡ rest ∷ [] → lines_from form past n d (pieces 10 rest) ≡ Err (record { line = n; flaw = at_byte (length rest) wanted.SmallerFile })
past_line form past n d rest e p = ap (lines_from form past n d) p ∙ ap (λ t. if t then Err (record { line = n; flaw = at_byte (length rest) wanted.SmallerFile }) else at n (line_step form d rest) (λ e. Ok e)) e

-- the same answer for an equal reading
pub same_answer : (r : Result Draft BadScenario) (asked other : Result Draft At) → asked ≡ other → DraftRead r other → DraftRead r asked
same_answer (Ok d) asked other e h = e ∙ h
same_answer (Err (bad.BadLine m f)) asked other e h = e ∙ h
same_answer (Err bad.NoMemory) asked other e h = tt

-- the error that a `?` hands on
pub handed_on : (r : Result Draft BadScenario) (b : BadScenario) (asked : Result Draft At) → IsErrAnd r (λ e. e ≡ b) → DraftRead (Err b) asked → DraftRead r asked
handed_on (Ok d) b asked h read = absurd h
handed_on (Err e) b asked h read = rw h read
