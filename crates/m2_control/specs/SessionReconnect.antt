-- The payload of SESSION_RECONNECT: addrs, client, server, global, connect, seen. Format: Ceph's msgr2 documentation; what is refused is this project's profile.
use Rattle.std.specs.Prelude.{ℕ, List, ◌++◌, Result}
use Rattle.std.specs.Int.{w64, to_le_bytes}
use Rattle.m2_addr.specs.declared.addr.AnyAddr.{AnyAddr}
use Rattle.m2_addr.specs.Reading.{◌⊳◌, made}
use Rattle.m2_addr.specs.Grammar.{◌▹◌}
use Rattle.m2_addr.specs.Vector.{bares, vector_text}
use Rattle.m2_control.specs.declared.session_reconnect.SessionReconnect.{SessionReconnect}
use Rattle.m2_control.specs.declared.fault.ControlFault.{ControlFault}
use Rattle.m2_control.specs.Fields.{IsBounded, IsCookie, IsMainVector, bounded_at, cookie_at, vector_field}

abbrev pub make_session_reconnect : ((List AnyAddr) × (ℕ × (ℕ × (ℕ × (ℕ × ℕ))))) → SessionReconnect
make_session_reconnect x = record { addrs = x.0; client = x.1.0; server = x.1.1.0; global = x.1.1.1.0; connect = x.1.1.1.1.0; seen = x.1.1.1.1.1 }

abbrev pub session_reconnect_parts : SessionReconnect → ((List AnyAddr) × (ℕ × (ℕ × (ℕ × (ℕ × ℕ)))))
session_reconnect_parts p = (bares p.addrs, (p.client, (p.server, (p.global, (p.connect, p.seen)))))

-- without where its parts lie in memory
abbrev pub bare_session_reconnect : SessionReconnect → SessionReconnect
bare_session_reconnect p = make_session_reconnect (session_reconnect_parts p)

abbrev pub IsSessionReconnect : SessionReconnect → List ℕ → Type 0
IsSessionReconnect p = IsMainVector (bares p.addrs) ▹ IsCookie p.client ▹ IsCookie p.server ▹ IsBounded p.global ▹ IsBounded p.connect ▹ IsBounded p.seen

abbrev pub session_reconnect_at : List ℕ → Result (SessionReconnect × List ℕ) ControlFault
session_reconnect_at = made make_session_reconnect (vector_field ⊳ cookie_at 2 ⊳ cookie_at 3 ⊳ bounded_at 4 ⊳ bounded_at 5 ⊳ bounded_at 6)

abbrev pub session_reconnect_text : SessionReconnect → List ℕ
session_reconnect_text p = vector_text p.addrs ++ to_le_bytes w64 p.client ++ to_le_bytes w64 p.server ++ to_le_bytes w64 p.global ++ to_le_bytes w64 p.connect ++ to_le_bytes w64 p.seen
