-- The payload of AUTH_REQUEST: method, modes, payload. Format: Ceph's msgr2 documentation; what is refused is this project's profile.
use Rattle.std.specs.Prelude.{ℕ, List, ◌++◌, Result}
use Rattle.std.specs.Int.{w32, to_le_bytes}
use Rattle.m2_addr.specs.Reading.{number, ◌⊳◌, made}
use Rattle.m2_addr.specs.Grammar.{◌▹◌, IsNumber}
use Rattle.m2_control.specs.declared.auth_request.AuthRequest.{AuthRequest}
use Rattle.m2_control.specs.declared.fault.ControlFault.{ControlFault}
use Rattle.m2_control.specs.declared.fault.ControlFault.TheVariants.{Short}
use Rattle.m2_control.specs.Fields.{IsList, IsShortString, list_at, string_at, list_text, string_text, blob, listed}

abbrev pub make_auth_request : (ℕ × ((List ℕ) × (List ℕ))) → AuthRequest
make_auth_request x = record { method = x.0; modes = listed x.1.0; payload = blob (x.1.1) }

abbrev pub auth_request_parts : AuthRequest → (ℕ × ((List ℕ) × (List ℕ)))
auth_request_parts p = (p.method, (p.modes.items, p.payload.bytes))

-- without where its parts lie in memory
abbrev pub bare_auth_request : AuthRequest → AuthRequest
bare_auth_request p = make_auth_request (auth_request_parts p)

abbrev pub IsAuthRequest : AuthRequest → List ℕ → Type 0
IsAuthRequest p = IsNumber w32 p.method ▹ IsList p.modes.items ▹ IsShortString p.payload.bytes

abbrev pub auth_request_at : List ℕ → Result (AuthRequest × List ℕ) ControlFault
auth_request_at = made make_auth_request (number w32 Short ⊳ list_at 2 ⊳ string_at 3)

abbrev pub auth_request_text : AuthRequest → List ℕ
auth_request_text p = to_le_bytes w32 p.method ++ list_text p.modes.items ++ string_text p.payload.bytes
