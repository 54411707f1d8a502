-- Words one after another: those that a random generator gives, and those that are counted. This project's own.
use Rattle.std.specs.Prelude.{◌≡◌, ℕ, List, [], ◌∷◌}
use Rattle.m2_edge.specs.Faults.{next_count}
use Rattle.rand_core.specs.Stream.{Stream, next_u64}

-- counting words: the next number, which is also the one that was given last from then on
abbrev pub Counts : ℕ → ℕ → ℕ → Type 0
Counts old word new = (word ≡ next_count old) × (new ≡ word)

-- drawing: the word is the next of the generator's stream, and the rest of that is left
abbrev pub Draws : Stream → ℕ → Stream → Type 0
Draws old word new = (word, new) ≡ next_u64 old

-- these words come one after another, by which word may come each time
abbrev pub GivesEach : {W : Type 0} → (W → ℕ → W → Type 0) → W → List ℕ → W → Type 0
GivesEach may_give old [] new = new ≡ old
GivesEach {W} may_give old (word ∷ words) new = (next : W) × may_give old word next × GivesEach may_give next words new
