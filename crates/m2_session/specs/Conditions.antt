-- Words of the conditions of the tables.
use Rattle.std.specs.Prelude.{ℕ, Bool, not, ◌==◌, nat_lt}

abbrev pub differs : ℕ → ℕ → Bool
differs a b = not (a == b)

-- the first number is above the second
abbrev pub is_above : ℕ → ℕ → Bool
is_above a b = nat_lt b a

-- the cookie is kept: it isn't 0
abbrev pub is_kept : ℕ → Bool
is_kept cookie = not (cookie == 0)
