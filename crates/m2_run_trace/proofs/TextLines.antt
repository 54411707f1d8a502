-- Texts in lines.
use Rattle.std.proofs.Common.{◌≡◌, ℕ, ◌==◌, Bool, true, false, List, [], ◌∷◌, if◌then◌else◌, refl, sym, ap, ◌∙◌}
use Rattle.m2_run_trace.specs.Script.{is_played, lines_behind, or_empty, sort_of}
use Rattle.m2_scenario.specs.Text.{Word, glued, pieces}

some_by : (c : Bool) (b : ℕ) (ps : List Word) → or_empty (if c then [] ∷ ps else glued b ps) ≡ (if c then [] ∷ ps else glued b ps)
some_by true b ps = refl
some_by false b [] = refl
some_by false b (p ∷ ps) = refl

-- a text has a piece
some_piece : (mark : ℕ) (text : Word) → or_empty (pieces mark text) ≡ pieces mark text
some_piece mark [] = refl
some_piece mark (b ∷ bs) = some_by (b == mark) b (pieces mark bs)

-- behind a line that is played stands the text behind it
pub behind_played : (text line more : Word) (total : List Word) → pieces 10 text ≡ line ∷ pieces 10 more → is_played (sort_of line) ≡ true →
    lines_behind (pieces 10 text) ≡ total → pieces 10 more ≡ total
behind_played text line more total split played all =
    sym (some_piece 10 more) ∙ sym (ap (λ (b : Bool). if b then or_empty (pieces 10 more) else lines_behind (pieces 10 more)) played) ∙ sym (ap lines_behind split) ∙ all
