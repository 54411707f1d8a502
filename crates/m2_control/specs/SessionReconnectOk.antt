-- The payload of SESSION_RECONNECT_OK: seen. Format: Ceph's msgr2 documentation; what is refused is this project's profile.
use Rattle.std.specs.Prelude.{ℕ, List, Result}
use Rattle.std.specs.Int.{w64, to_le_bytes}
use Rattle.m2_addr.specs.Reading.{made}
use Rattle.m2_control.specs.declared.session_reconnect_ok.SessionReconnectOk.{SessionReconnectOk}
use Rattle.m2_control.specs.declared.fault.ControlFault.{ControlFault}
use Rattle.m2_control.specs.Fields.{IsBounded, bounded_at}

abbrev pub make_session_reconnect_ok : ℕ → SessionReconnectOk
make_session_reconnect_ok x = record { seen = x }

abbrev pub session_reconnect_ok_parts : SessionReconnectOk → ℕ
session_reconnect_ok_parts p = p.seen

-- without where its parts lie in memory
abbrev pub bare_session_reconnect_ok : SessionReconnectOk → SessionReconnectOk
bare_session_reconnect_ok p = make_session_reconnect_ok (session_reconnect_ok_parts p)

abbrev pub IsSessionReconnectOk : SessionReconnectOk → List ℕ → Type 0
IsSessionReconnectOk p = IsBounded p.seen

abbrev pub session_reconnect_ok_at : List ℕ → Result (SessionReconnectOk × List ℕ) ControlFault
session_reconnect_ok_at = made make_session_reconnect_ok (bounded_at 1)

abbrev pub session_reconnect_ok_text : SessionReconnectOk → List ℕ
session_reconnect_ok_text p = to_le_bytes w64 p.seen
