-- What a draw answers, and what the answer means for a counter that is alone. This project's own.
use Rattle.std.specs.Prelude.{◌≡◌, ℕ, ◌+◌, ◌<◌, List, [], ◌∷◌, ◌++◌}
use Rattle.m2_shared.specs.declared.limits.TheConstants.{LAST_NUMBER}
use Rattle.m2_shared.specs.declared.draw.Draw.{Draw}
use Rattle.m2_shared.specs.declared.draw.Draw.TheVariants.{Number, Spent, Again}

-- a fact of the number, where there is one
abbrev pub IfNumber : Draw → (ℕ → Type 0) → Type 0
IfNumber (Number n) P = P n
IfNumber Spent P = Unit {0}
IfNumber (Again seen now) P = Unit {0}

-- a fact of the word loaded and the word at the exchange, where they differ
abbrev pub IfDrawAgain : Draw → (ℕ → ℕ → Type 0) → Type 0
IfDrawAgain (Number n) P = Unit {0}
IfDrawAgain Spent P = Unit {0}
IfDrawAgain (Again seen now) P = P seen now

-- the answer of a counter that is alone, whose word is `word`
abbrev pub IsDrawAlone : Draw → ℕ → Type 0
IsDrawAlone (Number n) word = (n ≡ word + 1) × (word < LAST_NUMBER)
IsDrawAlone Spent word = word ≡ LAST_NUMBER
IsDrawAlone (Again seen now) word = ⊥

-- what a pass has drawn after an answer
abbrev pub drawn_after : Draw → List ℕ → List ℕ
drawn_after (Number n) drawn = drawn ++ n ∷ []
drawn_after Spent drawn = drawn
drawn_after (Again seen now) drawn = drawn

-- the word, as an answer tells it
abbrev pub word_told : Draw → ℕ
word_told (Number n) = n
word_told Spent = LAST_NUMBER
word_told (Again seen now) = now
