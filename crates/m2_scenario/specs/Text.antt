-- A text in pieces: what stands between separators, and the words of a line.
use Rattle.std.specs.Prelude.{ℕ, ◌==◌, if◌then◌else◌, List, [], ◌∷◌, Option, Some, None, zero, suc}

abbrev pub Word : Type 0
Word = List ℕ

-- what stands before the first separator, and what after it
abbrev pub with_first : ℕ → Option (Word × Word) → Option (Word × Word)
with_first b (Some parts) = Some (b ∷ parts.0, parts.1)
with_first b None = None

abbrev pub cut_at : ℕ → Word → Option (Word × Word)
cut_at mark [] = None
cut_at mark (b ∷ bs) = if b == mark then Some ([], bs) else with_first b (cut_at mark bs)

-- the byte put before the first piece
abbrev pub glued : ℕ → List Word → List Word
glued b [] = (b ∷ []) ∷ []
glued b (p ∷ ps) = (b ∷ p) ∷ ps

-- what stands between separators: one piece more than there are separators
abbrev pub pieces : ℕ → Word → List Word
pieces mark [] = [] ∷ []
pieces mark (b ∷ bs) = if b == mark then [] ∷ pieces mark bs else glued b (pieces mark bs)

-- the pieces that aren't empty
abbrev pub filled : List Word → List Word
filled [] = []
filled ([] ∷ ps) = filled ps
filled ((b ∷ bs) ∷ ps) = (b ∷ bs) ∷ filled ps

-- the words of a line stand between one or more spaces
abbrev pub words_of : Word → List Word
words_of line = filled (pieces 32 line)

-- the word at a place, from 0
abbrev pub word : List Word → ℕ → Word
word [] n = []
word (w ∷ ws) zero = w
word (w ∷ ws) (suc n) = word ws n
