-- Which calls of a dispatcher the threads of a run count, so that they know when to stop. This project's own.
use Rattle.std.specs.Prelude.{ℕ, ◌+◌, ◌-◌, ◌^◌, Bool, true, false, List, filter, length, min, slice_get, unwrap_or}
use Rattle.m2_dispatch.specs.declared.logged.Logged.{Logged}
use Rattle.m2_dispatch.specs.declared.logged.Logged.TheVariants as logged

-- whether a call is a message of a node whose posts count
abbrev pub does_count : (counts : List Bool) → Logged → Bool
does_count counts (logged.Message peer key number life message) = unwrap_or (slice_get counts peer) false
does_count counts (logged.Reset peer) = false

-- the greatest number of 64 bits, at which a count stands still
abbrev pub most : ℕ
most = 2 ^ 64 - 1

-- how many of these calls count
abbrev pub count_in : (counts : List Bool) → List Logged → ℕ
count_in counts log = min (length (filter (does_count counts) log)) most

-- one call more, which counts or not
abbrev pub count_on : (counts : Bool) → ℕ → ℕ
count_on true count = min (count + 1) most
count_on false count = count
