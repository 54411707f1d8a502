-- The moments of a clock, in milliseconds, taken as rising. This project's own.
use Rattle.std.specs.Prelude.{◌≡◌, ℕ, ◌-◌, ◌/◌, ◌^◌, max, min}
use Rattle.std.specs.Duration.{as_nanos}
use Rattle.std.specs.declared.time.Duration.{Duration}

-- The moment after an earlier one: the greater of that and an answer that the clock may give.
abbrev pub IsNextMoment : (ℕ → Type 0) → ℕ → ℕ → Type 0
IsNextMoment may_give earlier moment = (answer : ℕ) × may_give answer × (moment ≡ max earlier answer)

-- the whole milliseconds from one reading to a later one, none where it isn't later; at the end of 64 bits a
-- clock stands still
abbrev pub millis_between : Duration → Duration → ℕ
millis_between start reading = min ((as_nanos reading - as_nanos start) / 1_000_000) (2 ^ 64 - 1)
