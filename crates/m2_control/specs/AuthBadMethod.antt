-- The payload of AUTH_BAD_METHOD: method, outcome, methods, modes. Format: Ceph's msgr2 documentation; what is refused is this project's profile.
use Rattle.std.specs.Prelude.{ℕ, ℤ, List, ◌++◌, Result}
use Rattle.std.specs.Int.{w32, to_le_bytes, cast_unsigned}
use Rattle.m2_addr.specs.Reading.{number, ◌⊳◌, made}
use Rattle.m2_addr.specs.Grammar.{◌▹◌, IsNumber}
use Rattle.m2_control.specs.declared.auth_bad_method.AuthBadMethod.{AuthBadMethod}
use Rattle.m2_control.specs.declared.fault.ControlFault.{ControlFault}
use Rattle.m2_control.specs.declared.fault.ControlFault.TheVariants.{Short}
use Rattle.m2_control.specs.Fields.{IsSigned, IsList, signed, list_at, list_text, listed}

abbrev pub make_auth_bad_method : (ℕ × (ℤ × ((List ℕ) × (List ℕ)))) → AuthBadMethod
make_auth_bad_method x = record { method = x.0; outcome = x.1.0; methods = listed x.1.1.0; modes = listed x.1.1.1 }

abbrev pub auth_bad_method_parts : AuthBadMethod → (ℕ × (ℤ × ((List ℕ) × (List ℕ))))
auth_bad_method_parts p = (p.method, (p.outcome, (p.methods.items, p.modes.items)))

-- without where its parts lie in memory
abbrev pub bare_auth_bad_method : AuthBadMethod → AuthBadMethod
bare_auth_bad_method p = make_auth_bad_method (auth_bad_method_parts p)

abbrev pub IsAuthBadMethod : AuthBadMethod → List ℕ → Type 0
IsAuthBadMethod p = IsNumber w32 p.method ▹ IsSigned w32 p.outcome ▹ IsList p.methods.items ▹ IsList p.modes.items

abbrev pub auth_bad_method_at : List ℕ → Result (AuthBadMethod × List ℕ) ControlFault
auth_bad_method_at = made make_auth_bad_method (number w32 Short ⊳ signed w32 ⊳ list_at 3 ⊳ list_at 4)

abbrev pub auth_bad_method_text : AuthBadMethod → List ℕ
auth_bad_method_text p = to_le_bytes w32 p.method ++ to_le_bytes w32 (cast_unsigned w32 p.outcome) ++ list_text p.methods.items ++ list_text p.modes.items
