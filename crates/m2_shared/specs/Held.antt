-- The rule of the word that a throttle shares, and what a step on it does to the seat that takes it. Each grant has a
-- seat, which holds its bytes; the seat of a pass holds none. A seat knows too what its steps did to the word.
use Rattle.std.specs.Prelude.{◌≡◌, ℕ, ◌+◌, ◌-◌, ◌≤◌, ◌⊎◌, ◌==◌, List, [], ◌∷◌, ◌++◌, sum, if◌then◌else◌}
use mathlib.Core.Option.{some}
use lib.ListN.{get_elem?}
use Rattle.atomic_table.specs.Table.{Me, Step}
use Rattle.m2_shared.specs.declared.held.Change.{Change}
use Rattle.m2_shared.specs.declared.held.Holding.{Holding}

-- one seat holds at least the bound, and what the others hold fits under it
pub record OneIsGreat (most : ℕ) (held : List ℕ) : Type 0 where
  pub place : ℕ
  pub n : ℕ
  pub there : get_elem? held place ≡ some n
  pub great : most ≤ n
  pub others : sum held ≤ most + n

-- what the seats hold fits under the bound, or it does without one seat that holds at least the bound
abbrev pub IsWithin : ℕ → List ℕ → Type 0
IsWithin most held = (sum held ≤ most) ⊎ OneIsGreat most held

-- the rule: the one word is the sum of what the seats hold, and that is within the bound
pub record IsOut (most : ℕ) (words held : List ℕ) : Type 0 where
  pub word : words ≡ sum held ∷ []
  pub within : IsWithin most held

-- a seat that holds nothing and has made no steps
abbrev pub holding_nothing : Holding
holding_nothing = record { held = 0; changes = [] }

abbrev pub held_of : Holding → ℕ
held_of h = h.held

-- a step that changed the word
abbrev pub change : ℕ → ℕ → Change
change from to = record { from = from; to = to }

-- one step more
abbrev pub with_change : ℕ → ℕ → Holding → Holding
with_change from to h = record { held = h.held; changes = h.changes ++ change from to ∷ [] }

-- what two seats hold and did
abbrev pub both_holdings : Holding → Holding → Holding
both_holdings h other = record { held = h.held + other.held; changes = h.changes ++ other.changes }

-- the word was to rise from `seen` to `to`, and was found to be `found`
abbrev pub raised_by : ℕ → ℕ → ℕ → Holding → Holding
raised_by seen to found h = record {
  held = if found == seen then to - seen else h.held;
  changes = h.changes ++ change found (if found == seen then to else found) ∷ [];
}

-- the word fell from `found` by n
abbrev pub lowered_by : ℕ → ℕ → Holding → Holding
lowered_by n found h = record { held = h.held - n; changes = h.changes ++ change found (found - n) ∷ [] }

abbrev pub looked : {S : Type 0} → Step S → Me S Holding → ℕ → Me S Holding → Type 0
looked s before found after = after ≡ (with_change found found before.0, before.1)

abbrev pub raised : {S : Type 0} → Step S → Me S Holding → ℕ → Me S Holding → Type 0
raised s before found after = after ≡ (raised_by s.first s.second found before.0, before.1)

abbrev pub lowered : {S : Type 0} → Step S → Me S Holding → ℕ → Me S Holding → Type 0
lowered s before found after = (after ≡ (lowered_by s.first found before.0, before.1)) × (s.first ≤ found)
