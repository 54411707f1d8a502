-- Text that a half writes behind what isn't put. This project's own.
use Rattle.std.specs.Prelude.{ℕ, Bool, true, false, List, [], ◌∷◌}
use Rattle.m2_handshake.specs.Half.{Writer}
use Rattle.m2_handshake.specs.Standing.{Standing}

abbrev pub is_some : List ℕ → Bool
is_some [] = false
is_some (b ∷ bs) = true

-- a half that writes behind these bytes
abbrev pub behind : Standing → List ℕ → Writer
behind standing left = record { standing = standing; out = left }
