-- How a complaint of a bad line begins. This project's own.
use Rattle.std.specs.Prelude.{ℕ, List, ◌++◌, codes}
use Rattle.std.specs.Fmt.{decimal}

-- which line, of what
unfoldable pub bad_line : List ℕ → ℕ → List ℕ
bad_line what line = codes "bad " ++ what ++ codes ": line " ++ decimal line
