-- The payload of SERVER_IDENT: addrs, gid, global, supported, required, flags, cookie. Format: Ceph's msgr2 documentation; what is refused is this project's profile.
use Rattle.std.specs.Prelude.{ℕ, List, ◌++◌, Result}
use Rattle.m2_addr.specs.declared.addr.AnyAddr.{AnyAddr}
use Rattle.m2_addr.specs.Reading.{◌⊳◌, made}
use Rattle.m2_addr.specs.Grammar.{◌▹◌}
use Rattle.m2_addr.specs.Vector.{bares, vector_text}
use Rattle.m2_control.specs.declared.server_ident.ServerIdent.{ServerIdent}
use Rattle.m2_control.specs.declared.ident.Tail.{Tail}
use Rattle.m2_control.specs.declared.fault.ControlFault.{ControlFault}
use Rattle.m2_control.specs.Fields.{IsMainVector, vector_field}
use Rattle.m2_control.specs.Ident.{IsTail, tail_at, tail_text}

abbrev pub make_server_ident : ((List AnyAddr) × Tail) → ServerIdent
make_server_ident x = record { addrs = x.0; gid = x.1.gid; global = x.1.global; supported = x.1.supported; required = x.1.required; flags = x.1.flags; cookie = x.1.cookie }

abbrev pub server_ident_parts : ServerIdent → ((List AnyAddr) × Tail)
server_ident_parts p = (bares p.addrs, (let t : Tail = record { gid = p.gid; global = p.global; supported = p.supported; required = p.required; flags = p.flags; cookie = p.cookie } in t))

-- without where its parts lie in memory
abbrev pub bare_server_ident : ServerIdent → ServerIdent
bare_server_ident p = make_server_ident (server_ident_parts p)

abbrev pub IsServerIdent : ServerIdent → List ℕ → Type 0
IsServerIdent p = IsMainVector (bares p.addrs) ▹ IsTail (record { gid = p.gid; global = p.global; supported = p.supported; required = p.required; flags = p.flags; cookie = p.cookie })

abbrev pub server_ident_at : List ℕ → Result (ServerIdent × List ℕ) ControlFault
server_ident_at = made make_server_ident (vector_field ⊳ tail_at 2)

abbrev pub server_ident_text : ServerIdent → List ℕ
server_ident_text p = vector_text p.addrs ++ tail_text (record { gid = p.gid; global = p.global; supported = p.supported; required = p.required; flags = p.flags; cookie = p.cookie })
