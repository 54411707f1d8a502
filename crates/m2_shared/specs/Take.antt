-- What a try to take answers, and what the answer means for a throttle that is alone. This project's own.
use Rattle.std.specs.Prelude.{◌≡◌, ℕ, ◌+◌}
use Rattle.m2_shared.specs.Throttle.{SeenGrant, Waits}
use Rattle.m2_shared.specs.declared.take.Take.{Take}
use Rattle.m2_shared.specs.declared.take.Take.TheVariants.{Grant, Full, Again}

-- a fact of the grant, where it is one
abbrev pub IfGranted : Take → (SeenGrant → Type 0) → Type 0
IfGranted (Grant g) P = P g
IfGranted (Full held) P = Unit {0}
IfGranted (Again seen now) P = Unit {0}

-- a fact of how many bytes were out, where it is full
abbrev pub IfFull : Take → (ℕ → Type 0) → Type 0
IfFull (Grant g) P = Unit {0}
IfFull (Full held) P = P held
IfFull (Again seen now) P = Unit {0}

-- a fact of the word loaded and the word at the exchange, where they differ
abbrev pub IfTakeAgain : Take → (ℕ → ℕ → Type 0) → Type 0
IfTakeAgain (Grant g) P = Unit {0}
IfTakeAgain (Full held) P = Unit {0}
IfTakeAgain (Again seen now) P = P seen now

-- the answer of a throttle that is alone, to n bytes of at most `most` with `word` out
abbrev pub IsAnswerAlone : Take → ℕ → ℕ → ℕ → Type 0
IsAnswerAlone (Grant g) most word n = ¬ Waits most word n
IsAnswerAlone (Full held) most word n = (held ≡ word) × Waits most word n
IsAnswerAlone (Again seen now) most word n = ⊥

-- the word of a throttle that is alone after an answer
abbrev pub word_after : Take → ℕ → ℕ → ℕ
word_after (Grant g) word n = word + n
word_after (Full held) word n = word
word_after (Again seen now) word n = word
