-- The rule of the word that a counter of numbers shares, and what a step on it does to the seat that takes it. Each
-- seat has the numbers that were drawn by it, in order, and knows what the word is at least.
use Rattle.std.specs.Prelude.{◌≡◌, ◌≢◌, ℕ, ◌+◌, ◌<◌, ◌≤◌, ◌==◌, List, [], ◌∷◌, ◌++◌, max, All, AllPairs, sum_by, count_by, if◌then◌else◌}
use mathlib.Core.Option.{some}
use lib.ListN.{get_elem?}
use Rattle.atomic_table.specs.Table.{Me, Step}
use Rattle.m2_shared.specs.declared.limits.TheConstants.{LAST_NUMBER}
use Rattle.m2_shared.specs.declared.counted.Known.{Known}

-- how often a number stands in a list
abbrev pub times : ℕ → List ℕ → ℕ
times x drawn = count_by (λ y. y == x) drawn

-- how often all seats have it together
abbrev pub times_in_all : ℕ → List Known → ℕ
times_in_all x seats = sum_by (λ known. times x known.drawn) seats

-- the rule: no number stands twice in what the seats have, those are numbers from 1 to the one word, that is at most
-- the last number, and at least what each seat knows
pub record IsGivenOnce (words : List ℕ) (seats : List Known) : Type 0 where
  pub word : ℕ
  pub is_word : words ≡ word ∷ []
  pub last : word ≤ LAST_NUMBER
  pub once : (x : ℕ) → times_in_all x seats ≤ 1
  pub within : (x : ℕ) → 0 < times_in_all x seats → (0 < x) × (x ≤ word)
  pub least : (id : ℕ) (known : Known) → get_elem? seats id ≡ some known → known.least ≤ word

-- a seat that knows nothing
abbrev pub knowing_nothing : Known
knowing_nothing = record { drawn = []; least = 0 }

-- what two seats know
abbrev pub both_known : Known → Known → Known
both_known known other = record { drawn = known.drawn ++ other.drawn; least = max known.least other.least }

-- a number was drawn
abbrev pub with_number : ℕ → Known → Known
with_number n known = record { drawn = known.drawn ++ n ∷ []; least = n }

-- the word was found to be at least so much
abbrev pub lift : ℕ → Known → Known
lift least known = record { drawn = known.drawn; least = max known.least least }

-- what a seat knows after the word was to rise from `seen` by one and was found to be `found`
abbrev pub known_after : ℕ → ℕ → Known → Known
known_after seen found known = if found == seen then with_number (seen + 1) known else lift found known

-- what a seat is told of the number that it draws: it is above all that were drawn by it
abbrev pub IsAbove : ℕ → Known → Type 0
IsAbove n known = All (λ x. x < n) known.drawn

-- what a seat is told that looks at the word
pub record IsFound (found : ℕ) (known : Known) : Type 0 where
  pub last : found ≤ LAST_NUMBER
  pub least : known.least ≤ found
  pub once : AllPairs (λ x y. x ≢ y) known.drawn

abbrev pub told : {S : Type 0} → Step S → Me S Known → ℕ → Me S Known → Type 0
told s before found after = (after ≡ (lift found before.0, before.1)) × IsFound found before.0

abbrev pub lifted : {S : Type 0} → Step S → Me S Known → ℕ → Me S Known → Type 0
lifted s before found after = after ≡ (lift s.first before.0, before.1)

abbrev pub drew : {S : Type 0} → Step S → Me S Known → ℕ → Me S Known → Type 0
drew s before found after =
    (after ≡ (known_after s.first found before.0, before.1)) × IsFound found before.0 × (found ≡ s.first → IsAbove (s.first + 1) before.0)
