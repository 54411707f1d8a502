-- How many bytes have flowed on a socket between two sides. This project's own.
use Rattle.std.specs.Prelude.{ℕ, ◌+◌, List, slice_get, slice_set, Option, Some, None}
use Rattle.m2_record_trace.specs.declared.which.Which.{Which}
use Rattle.m2_record_trace.specs.declared.which.Which.TheVariants.{First, Second}
use Rattle.m2_record_trace.specs.declared.wire.Wire.{Wire}

-- by whose bytes they are, and who opened the socket
abbrev pub flowed_by : (from opener : Which) → Wire → ℕ
flowed_by First First w = w.ahead
flowed_by First Second w = w.back
flowed_by Second First w = w.back
flowed_by Second Second w = w.ahead

abbrev pub flowed_from : Which → Wire → ℕ
flowed_from from w = flowed_by from w.opener w

abbrev pub with_flowed_by : (from opener : Which) → ℕ → Wire → Wire
with_flowed_by First First n w = record w { ahead = n }
with_flowed_by First Second n w = record w { back = n }
with_flowed_by Second First n w = record w { back = n }
with_flowed_by Second Second n w = record w { ahead = n }

-- so many have flowed from this side
abbrev pub with_flowed : Which → ℕ → Wire → Wire
with_flowed from n w = with_flowed_by from w.opener n w

-- so many bytes more have flowed from this side on the wire at a place, where there is one
abbrev pub flowed_on : Which → Option Wire → (place n : ℕ) → List Wire → List Wire
flowed_on from (Some w) place n wires = slice_set wires place (with_flowed from (flowed_from from w + n) w)
flowed_on from None place n wires = wires

abbrev pub after_flow : Which → (place n : ℕ) → List Wire → List Wire
after_flow from place n wires = flowed_on from (slice_get wires place) place n wires
