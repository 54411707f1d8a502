-- The payload of KEEPALIVE2: seconds, nanos. Format: Ceph's msgr2 documentation; what is refused is this project's profile.
use Rattle.std.specs.Prelude.{ℕ, List, Result}
use Rattle.m2_addr.specs.Reading.{made}
use Rattle.m2_control.specs.declared.keepalive.Keepalive.{Keepalive}
use Rattle.m2_control.specs.declared.fault.ControlFault.{ControlFault}
use Rattle.m2_control.specs.Stamp.{IsStamp, stamp_at, stamp_text}

abbrev pub make_keepalive : (ℕ × ℕ) → Keepalive
make_keepalive x = record { seconds = x.0; nanos = x.1 }

abbrev pub keepalive_parts : Keepalive → (ℕ × ℕ)
keepalive_parts p = (p.seconds, p.nanos)

-- without where its parts lie in memory
abbrev pub bare_keepalive : Keepalive → Keepalive
bare_keepalive p = make_keepalive (keepalive_parts p)

abbrev pub IsKeepalive : Keepalive → List ℕ → Type 0
IsKeepalive p = IsStamp p.seconds p.nanos

abbrev pub keepalive_at : List ℕ → Result (Keepalive × List ℕ) ControlFault
keepalive_at = made make_keepalive stamp_at

abbrev pub keepalive_text : Keepalive → List ℕ
keepalive_text p = stamp_text p.seconds p.nanos
