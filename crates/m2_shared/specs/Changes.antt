-- What the calls of a throttle do to a word that threads share: lists of steps, each with the word as it was and as it
-- became.
use Rattle.std.specs.Prelude.{◌≡◌, ℕ, ◌+◌, ◌-◌, ◌≤◌, List, [], ◌∷◌, ◌++◌}
use Rattle.m2_shared.specs.Throttle.{Waits}
use Rattle.m2_shared.specs.Held.{change}
use Rattle.m2_shared.specs.declared.held.Change.{Change}

-- one step, by which the word rose by n
pub record IsRise (n : ℕ) (changes : List Change) : Type 0 where
  pub word : ℕ
  pub is : changes ≡ change word (word + n) ∷ []

-- a look at a word by which n bytes of at most `most` needn't wait
pub record IsRoom (most n : ℕ) (before after : List Change) : Type 0 where
  pub word : ℕ
  pub room : ¬ Waits most word n
  pub changes : after ≡ before ++ change word word ∷ []

-- a look at the word
abbrev pub IsLook : ℕ → List Change → List Change → Type 0
IsLook word before after = after ≡ before ++ change word word ∷ []

-- a look at the word as `seen`, and one as `now`
abbrev pub IsMissed : ℕ → ℕ → List Change → List Change → Type 0
IsMissed seen now before after = after ≡ before ++ change seen seen ∷ change now now ∷ []

-- a grant of n bytes comes back with the step by which the word rose, and the word falls by as much
pub record IsReturn (n : ℕ) (before after : List Change) : Type 0 where
  pub taken : ℕ
  pub given : ℕ
  pub enough : n ≤ given
  pub changes : after ≡ before ++ change taken (taken + n) ∷ change given (given - n) ∷ []
