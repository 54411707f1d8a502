-- The payload of CLIENT_IDENT: addrs, target, gid, global, supported, required, flags, cookie. Format: Ceph's msgr2 documentation; what is refused is this project's profile.
use Rattle.std.specs.Prelude.{ℕ, List, ◌++◌, Result}
use Rattle.m2_addr.specs.declared.addr.Addr.{Addr}
use Rattle.m2_addr.specs.declared.addr.AnyAddr.{AnyAddr}
use Rattle.m2_addr.specs.Reading.{◌⊳◌, made}
use Rattle.m2_addr.specs.Grammar.{◌▹◌}
use Rattle.m2_addr.specs.Addr.{ipv4_at, ipv4_text}
use Rattle.m2_addr.specs.Vector.{bares, vector_text}
use Rattle.m2_control.specs.declared.client_ident.ClientIdent.{ClientIdent}
use Rattle.m2_control.specs.declared.ident.Tail.{Tail}
use Rattle.m2_control.specs.declared.fault.ControlFault.{ControlFault}
use Rattle.m2_control.specs.Fields.{IsIpv4, IsMainVector, lifted, vector_field}
use Rattle.m2_control.specs.Ident.{IsTail, tail_at, tail_text}

abbrev pub make_client_ident : ((List AnyAddr) × (Addr × Tail)) → ClientIdent
make_client_ident x = record { addrs = x.0; target = x.1.0; gid = x.1.1.gid; global = x.1.1.global; supported = x.1.1.supported; required = x.1.1.required; flags = x.1.1.flags; cookie = x.1.1.cookie }

abbrev pub client_ident_parts : ClientIdent → ((List AnyAddr) × (Addr × Tail))
client_ident_parts p = (bares p.addrs, (p.target, (let t : Tail = record { gid = p.gid; global = p.global; supported = p.supported; required = p.required; flags = p.flags; cookie = p.cookie } in t)))

-- without where its parts lie in memory
abbrev pub bare_client_ident : ClientIdent → ClientIdent
bare_client_ident p = make_client_ident (client_ident_parts p)

abbrev pub IsClientIdent : ClientIdent → List ℕ → Type 0
IsClientIdent p = IsMainVector (bares p.addrs) ▹ IsIpv4 p.target ▹ IsTail (record { gid = p.gid; global = p.global; supported = p.supported; required = p.required; flags = p.flags; cookie = p.cookie })

abbrev pub client_ident_at : List ℕ → Result (ClientIdent × List ℕ) ControlFault
client_ident_at = made make_client_ident (vector_field ⊳ lifted ipv4_at ⊳ tail_at 3)

abbrev pub client_ident_text : ClientIdent → List ℕ
client_ident_text p = vector_text p.addrs ++ ipv4_text p.target ++ tail_text (record { gid = p.gid; global = p.global; supported = p.supported; required = p.required; flags = p.flags; cookie = p.cookie })
