-- Bytes that no longer change.
use Rattle.std.specs.Prelude.{ℕ, List, [], Option, Some, None}

pub record Shown : Type 0 where
  pub bytes : List ℕ

-- those of what is held, where something is
abbrev pub bytes_in : {X : Type 0} → (X → List ℕ) → Option X → List ℕ
bytes_in items (Some held) = items held
bytes_in items None = []
