-- The payload of ACK: seen. Format: Ceph's msgr2 documentation; what is refused is this project's profile.
use Rattle.std.specs.Prelude.{ℕ, List, Result}
use Rattle.std.specs.Int.{w64, to_le_bytes}
use Rattle.m2_addr.specs.Reading.{made}
use Rattle.m2_control.specs.declared.ack.Ack.{Ack}
use Rattle.m2_control.specs.declared.fault.ControlFault.{ControlFault}
use Rattle.m2_control.specs.Fields.{IsBounded, bounded_at}

abbrev pub make_ack : ℕ → Ack
make_ack x = record { seen = x }

abbrev pub ack_parts : Ack → ℕ
ack_parts p = p.seen

-- without where its parts lie in memory
abbrev pub bare_ack : Ack → Ack
bare_ack p = make_ack (ack_parts p)

abbrev pub IsAck : Ack → List ℕ → Type 0
IsAck p = IsBounded p.seen

abbrev pub ack_at : List ℕ → Result (Ack × List ℕ) ControlFault
ack_at = made make_ack (bounded_at 1)

abbrev pub ack_text : Ack → List ℕ
ack_text p = to_le_bytes w64 p.seen
