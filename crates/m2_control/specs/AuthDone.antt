-- The payload of AUTH_DONE: global_id, mode, payload. Format: Ceph's msgr2 documentation; what is refused is this project's profile.
use Rattle.std.specs.Prelude.{ℕ, List, ◌++◌, Result}
use Rattle.std.specs.Int.{w32, w64, to_le_bytes}
use Rattle.m2_addr.specs.Reading.{number, ◌⊳◌, made}
use Rattle.m2_addr.specs.Grammar.{◌▹◌, IsNumber}
use Rattle.m2_control.specs.declared.auth_done.AuthDone.{AuthDone}
use Rattle.m2_control.specs.declared.fault.ControlFault.{ControlFault}
use Rattle.m2_control.specs.declared.fault.ControlFault.TheVariants.{Short}
use Rattle.m2_control.specs.Fields.{IsShortString, string_at, string_text, blob}

abbrev pub make_auth_done : (ℕ × (ℕ × (List ℕ))) → AuthDone
make_auth_done x = record { global_id = x.0; mode = x.1.0; payload = blob (x.1.1) }

abbrev pub auth_done_parts : AuthDone → (ℕ × (ℕ × (List ℕ)))
auth_done_parts p = (p.global_id, (p.mode, p.payload.bytes))

-- without where its parts lie in memory
abbrev pub bare_auth_done : AuthDone → AuthDone
bare_auth_done p = make_auth_done (auth_done_parts p)

abbrev pub IsAuthDone : AuthDone → List ℕ → Type 0
IsAuthDone p = IsNumber w64 p.global_id ▹ IsNumber w32 p.mode ▹ IsShortString p.payload.bytes

abbrev pub auth_done_at : List ℕ → Result (AuthDone × List ℕ) ControlFault
auth_done_at = made make_auth_done (number w64 Short ⊳ number w32 Short ⊳ string_at 3)

abbrev pub auth_done_text : AuthDone → List ℕ
auth_done_text p = to_le_bytes w64 p.global_id ++ to_le_bytes w32 p.mode ++ string_text p.payload.bytes
