-- Where a decoder stands in its stream.
use Rattle.std.specs.Prelude.{ℕ, Bool, List}

-- how many bytes are whole frames that were answered, the bytes since, whether the size that the frame at
-- their front asked for was granted, and how many more bytes fit before memory is taken
pub record Position : Type 0 where
  pub place : ℕ
  pub rest : List ℕ
  pub granted : Bool
  pub room : ℕ
