-- The payload of KEEPALIVE2_ACK: seconds, nanos. Format: Ceph's msgr2 documentation; what is refused is this project's profile.
use Rattle.std.specs.Prelude.{ℕ, List, Result}
use Rattle.m2_addr.specs.Reading.{made}
use Rattle.m2_control.specs.declared.keepalive_ack.KeepaliveAck.{KeepaliveAck}
use Rattle.m2_control.specs.declared.fault.ControlFault.{ControlFault}
use Rattle.m2_control.specs.Stamp.{IsStamp, stamp_at, stamp_text}

abbrev pub make_keepalive_ack : (ℕ × ℕ) → KeepaliveAck
make_keepalive_ack x = record { seconds = x.0; nanos = x.1 }

abbrev pub keepalive_ack_parts : KeepaliveAck → (ℕ × ℕ)
keepalive_ack_parts p = (p.seconds, p.nanos)

-- without where its parts lie in memory
abbrev pub bare_keepalive_ack : KeepaliveAck → KeepaliveAck
bare_keepalive_ack p = make_keepalive_ack (keepalive_ack_parts p)

abbrev pub IsKeepaliveAck : KeepaliveAck → List ℕ → Type 0
IsKeepaliveAck p = IsStamp p.seconds p.nanos

abbrev pub keepalive_ack_at : List ℕ → Result (KeepaliveAck × List ℕ) ControlFault
keepalive_ack_at = made make_keepalive_ack stamp_at

abbrev pub keepalive_ack_text : KeepaliveAck → List ℕ
keepalive_ack_text p = stamp_text p.seconds p.nanos
