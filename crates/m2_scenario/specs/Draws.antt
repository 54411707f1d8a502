-- The draws of a seed: a linear congruential generator of 64 bits, of which each draw gives the upper 31.
use Rattle.std.specs.Prelude.{ℕ, ◌+◌, ◌*◌, ◌/◌, ◌%◌, ◌^◌, zero, suc}
use Rattle.m2_scenario.specs.declared.draws.TheConstants.{MULTIPLIER, INCREMENT}

unfoldable pub next_state : ℕ → ℕ
next_state x = (x * MULTIPLIER + INCREMENT) % 2 ^ 64

unfoldable pub upper_bits : ℕ → ℕ
upper_bits x = x / 2 ^ 33

-- the state after so many draws; before the first it is the seed
abbrev pub state_after : ℕ → ℕ → ℕ
state_after seed zero = seed
state_after seed (suc k) = next_state (state_after seed k)

-- the k-th draw, from 0
abbrev pub draw : ℕ → ℕ → ℕ
draw seed k = upper_bits (next_state (state_after seed k))
