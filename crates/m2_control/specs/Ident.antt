-- The fields that CLIENT_IDENT and SERVER_IDENT share: global id, global number, supported and required features,
-- flags, cookie. Format: Ceph's msgr2 documentation; the bound and the rule on the cookie are this project's profile.
use Rattle.std.specs.Prelude.{◌≡◌, ℕ, ℤ, ◌+◌, ◌%◌, Bool, true, not, ◌&&◌, ◌==◌, List, ◌++◌, Result}
use Rattle.std.specs.Int.{w64, to_le_bytes, cast_unsigned}
use Rattle.m2_addr.specs.Reading.{number, checked, ◌⊳◌, made}
use Rattle.m2_addr.specs.Grammar.{◌▹◌, IsNumber}
use Rattle.m2_control.specs.declared.ident.Tail.{Tail}
use Rattle.m2_control.specs.declared.fault.ControlFault.{ControlFault}
use Rattle.m2_control.specs.declared.fault.ControlFault.TheVariants.{Short, BadValue}
use Rattle.m2_control.specs.Fields.{IsSigned, IsBounded, signed, bounded_at}

abbrev pub make_tail : (ℤ × (ℕ × (ℕ × (ℕ × (ℕ × ℕ))))) → Tail
make_tail x = record { gid = x.0; global = x.1.0; supported = x.1.1.0; required = x.1.1.1.0; flags = x.1.1.1.1.0; cookie = x.1.1.1.1.1 }

abbrev pub tail_parts : Tail → (ℤ × (ℕ × (ℕ × (ℕ × (ℕ × ℕ)))))
tail_parts t = (t.gid, (t.global, (t.supported, (t.required, (t.flags, t.cookie)))))

-- a session that isn't lossy has a cookie
abbrev pub keeps_cookie : Tail → Bool
keeps_cookie t = not ((t.flags % 2 == 0) && (t.cookie == 0))

abbrev pub IsTail : Tail → List ℕ → Type 0
IsTail t text = (IsSigned w64 t.gid ▹ IsBounded t.global ▹ IsNumber w64 t.supported ▹ IsNumber w64 t.required ▹ IsNumber w64 t.flags ▹ IsNumber w64 t.cookie) text × (keeps_cookie t ≡ true)

-- field is the number of the first of them
unfoldable pub tail_at : ℕ → List ℕ → Result (Tail × List ℕ) ControlFault
tail_at field = checked keeps_cookie (BadValue (field + 5))
    (made make_tail (signed w64 ⊳ bounded_at (field + 1) ⊳ number w64 Short ⊳ number w64 Short ⊳ number w64 Short ⊳ number w64 Short))

abbrev pub tail_text : Tail → List ℕ
tail_text t = to_le_bytes w64 (cast_unsigned w64 t.gid) ++ to_le_bytes w64 t.global ++ to_le_bytes w64 t.supported ++ to_le_bytes w64 t.required ++ to_le_bytes w64 t.flags ++ to_le_bytes w64 t.cookie
