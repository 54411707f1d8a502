-- The payload of SESSION_RETRY: connect. Format: Ceph's msgr2 documentation; what is refused is this project's profile.
use Rattle.std.specs.Prelude.{ℕ, List, Result}
use Rattle.std.specs.Int.{w64, to_le_bytes}
use Rattle.m2_addr.specs.Reading.{made}
use Rattle.m2_control.specs.declared.session_retry.SessionRetry.{SessionRetry}
use Rattle.m2_control.specs.declared.fault.ControlFault.{ControlFault}
use Rattle.m2_control.specs.Fields.{IsBounded, bounded_at}

abbrev pub make_session_retry : ℕ → SessionRetry
make_session_retry x = record { connect = x }

abbrev pub session_retry_parts : SessionRetry → ℕ
session_retry_parts p = p.connect

-- without where its parts lie in memory
abbrev pub bare_session_retry : SessionRetry → SessionRetry
bare_session_retry p = make_session_retry (session_retry_parts p)

abbrev pub IsSessionRetry : SessionRetry → List ℕ → Type 0
IsSessionRetry p = IsBounded p.connect

abbrev pub session_retry_at : List ℕ → Result (SessionRetry × List ℕ) ControlFault
session_retry_at = made make_session_retry (bounded_at 1)

abbrev pub session_retry_text : SessionRetry → List ℕ
session_retry_text p = to_le_bytes w64 p.connect
