-- What is left of the file that a source over std reads, where that is known.
use Rattle.std.specs.Prelude.{ℕ, List, [], Option, Some, None}

-- by what is left of a file; nothing where none is begun
abbrev pub left_of : {F : Type 0} → (F → Option (List ℕ)) → Option F → Option (List ℕ)
left_of remaining None = Some []
left_of remaining (Some file) = remaining file
