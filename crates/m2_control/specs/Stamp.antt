-- The fields that KEEPALIVE2 and KEEPALIVE2_ACK share: seconds and nanoseconds. Format: Ceph's msgr2 documentation.
use Rattle.std.specs.Prelude.{ℕ, List, ◌++◌, Result}
use Rattle.std.specs.Int.{w32, to_le_bytes}
use Rattle.m2_addr.specs.Reading.{number, ◌⊳◌}
use Rattle.m2_addr.specs.Grammar.{◌▹◌, IsNumber}
use Rattle.m2_control.specs.declared.fault.ControlFault.{ControlFault}
use Rattle.m2_control.specs.declared.fault.ControlFault.TheVariants.{Short}

abbrev pub IsStamp : ℕ → ℕ → List ℕ → Type 0
IsStamp seconds nanos = IsNumber w32 seconds ▹ IsNumber w32 nanos

abbrev pub stamp_at : List ℕ → Result ((ℕ × ℕ) × List ℕ) ControlFault
stamp_at = number w32 Short ⊳ number w32 Short

abbrev pub stamp_text : ℕ → ℕ → List ℕ
stamp_text seconds nanos = to_le_bytes w32 seconds ++ to_le_bytes w32 nanos
