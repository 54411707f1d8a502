-- The payload of SESSION_RESET: full. Format: Ceph's msgr2 documentation; what is refused is this project's profile.
use Rattle.std.specs.Prelude.{ℕ, Bool, List, [], ◌∷◌, Result}
use Rattle.m2_addr.specs.Reading.{made}
use Rattle.m2_control.specs.declared.session_reset.SessionReset.{SessionReset}
use Rattle.m2_control.specs.declared.fault.ControlFault.{ControlFault}
use Rattle.m2_control.specs.Fields.{IsFlag, flag_at, flag_byte}

abbrev pub make_session_reset : Bool → SessionReset
make_session_reset x = record { full = x }

abbrev pub session_reset_parts : SessionReset → Bool
session_reset_parts p = p.full

-- without where its parts lie in memory
abbrev pub bare_session_reset : SessionReset → SessionReset
bare_session_reset p = make_session_reset (session_reset_parts p)

abbrev pub IsSessionReset : SessionReset → List ℕ → Type 0
IsSessionReset p = IsFlag p.full

abbrev pub session_reset_at : List ℕ → Result (SessionReset × List ℕ) ControlFault
session_reset_at = made make_session_reset (flag_at 1)

abbrev pub session_reset_text : SessionReset → List ℕ
session_reset_text p = (flag_byte p.full ∷ [])
