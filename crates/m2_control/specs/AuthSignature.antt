-- The payload of AUTH_SIGNATURE: signature. Format: Ceph's msgr2 documentation; what is refused is this project's profile.
use Rattle.std.specs.Prelude.{ℕ, List, Result}
use Rattle.m2_addr.specs.Reading.{prefix, made}
use Rattle.m2_control.specs.declared.auth_signature.AuthSignature.{AuthSignature}
use Rattle.m2_control.specs.declared.fields.TheConstants.{SIGNATURE_BYTES}
use Rattle.m2_control.specs.declared.fault.ControlFault.{ControlFault}
use Rattle.m2_control.specs.declared.fault.ControlFault.TheVariants.{Short}
use Rattle.m2_control.specs.Fields.{IsSignature, blob}

abbrev pub make_auth_signature : (List ℕ) → AuthSignature
make_auth_signature x = record { signature = blob (x) }

abbrev pub auth_signature_parts : AuthSignature → (List ℕ)
auth_signature_parts p = p.signature.bytes

-- without where its parts lie in memory
abbrev pub bare_auth_signature : AuthSignature → AuthSignature
bare_auth_signature p = make_auth_signature (auth_signature_parts p)

abbrev pub IsAuthSignature : AuthSignature → List ℕ → Type 0
IsAuthSignature p = IsSignature p.signature.bytes

abbrev pub auth_signature_at : List ℕ → Result (AuthSignature × List ℕ) ControlFault
auth_signature_at = made make_auth_signature (prefix SIGNATURE_BYTES Short)

abbrev pub auth_signature_text : AuthSignature → List ℕ
auth_signature_text p = p.signature.bytes
