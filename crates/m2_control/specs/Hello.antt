-- The payload of HELLO: entity, seen. Format: Ceph's msgr2 documentation; what is refused is this project's profile.
use Rattle.std.specs.Prelude.{ℕ, List, [], ◌∷◌, ◌++◌, Result}
use Rattle.std.specs.Int.{w8}
use Rattle.m2_addr.specs.declared.addr.AnyAddr.{AnyAddr}
use Rattle.m2_addr.specs.Reading.{number, ◌⊳◌, made}
use Rattle.m2_addr.specs.Grammar.{◌▹◌, IsByte}
use Rattle.m2_addr.specs.Addr.{bare, IsAddress, address_at, any_text}
use Rattle.m2_control.specs.declared.hello.Hello.{Hello}
use Rattle.m2_control.specs.declared.fault.ControlFault.{ControlFault}
use Rattle.m2_control.specs.declared.fault.ControlFault.TheVariants.{Short}
use Rattle.m2_control.specs.Fields.{lifted}

abbrev pub make_hello : (ℕ × AnyAddr) → Hello
make_hello x = record { entity = x.0; seen = x.1 }

abbrev pub hello_parts : Hello → (ℕ × AnyAddr)
hello_parts p = (p.entity, bare p.seen)

-- without where its parts lie in memory
abbrev pub bare_hello : Hello → Hello
bare_hello p = make_hello (hello_parts p)

abbrev pub IsHello : Hello → List ℕ → Type 0
IsHello p = IsByte p.entity ▹ IsAddress (bare p.seen)

abbrev pub hello_at : List ℕ → Result (Hello × List ℕ) ControlFault
hello_at = made make_hello (number w8 Short ⊳ lifted address_at)

abbrev pub hello_text : Hello → List ℕ
hello_text p = (p.entity ∷ []) ++ any_text p.seen
