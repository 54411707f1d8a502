-- The payload of SESSION_RETRY_GLOBAL: global. Format: Ceph's msgr2 documentation; what is refused is this project's profile.
use Rattle.std.specs.Prelude.{ℕ, List, Result}
use Rattle.std.specs.Int.{w64, to_le_bytes}
use Rattle.m2_addr.specs.Reading.{made}
use Rattle.m2_control.specs.declared.session_retry_global.SessionRetryGlobal.{SessionRetryGlobal}
use Rattle.m2_control.specs.declared.fault.ControlFault.{ControlFault}
use Rattle.m2_control.specs.Fields.{IsBounded, bounded_at}

abbrev pub make_session_retry_global : ℕ → SessionRetryGlobal
make_session_retry_global x = record { global = x }

abbrev pub session_retry_global_parts : SessionRetryGlobal → ℕ
session_retry_global_parts p = p.global

-- without where its parts lie in memory
abbrev pub bare_session_retry_global : SessionRetryGlobal → SessionRetryGlobal
bare_session_retry_global p = make_session_retry_global (session_retry_global_parts p)

abbrev pub IsSessionRetryGlobal : SessionRetryGlobal → List ℕ → Type 0
IsSessionRetryGlobal p = IsBounded p.global

abbrev pub session_retry_global_at : List ℕ → Result (SessionRetryGlobal × List ℕ) ControlFault
session_retry_global_at = made make_session_retry_global (bounded_at 1)

abbrev pub session_retry_global_text : SessionRetryGlobal → List ℕ
session_retry_global_text p = to_le_bytes w64 p.global
