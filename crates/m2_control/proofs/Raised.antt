-- A fault of an address, raised, is the payload's.
use Rattle.std.proofs.Common.{◌≡◌, is_ok, List, [], ◌∷◌, Result, refl, ap}
use Rattle.m2_addr.specs.declared.addr.AnyAddr.{AnyAddr}
use Rattle.m2_addr.specs.declared.addr.AnyAddr.TheVariants.{V4, Other}
use Rattle.m2_addr.specs.declared.fault.AddrFault.{AddrFault}
use Rattle.m2_addr.specs.declared.fault.AddrFault.TheVariants.{Short, BadMarker, BadLength, NotIpv4, NoMsgr2, TooMany, NoMemory}
use Rattle.m2_addr.specs.Outcome as address
use Rattle.m2_addr.specs.Vector.{bares, main_of}
use Rattle.m2_control.specs.Outcome.{Fails, raised_as}
use Rattle.m2_control.specs.Fields.{raise, has_main}

pub raised_fails : {A : Type 0} (e : AddrFault) (read : Result A AddrFault) → address.Fails e read → Fails (raised_as e) (raise read)
raised_fails Short read h = ap raise h
raised_fails BadMarker read h = ap raise h
raised_fails BadLength read h = ap raise h
raised_fails NotIpv4 read h = ap raise h
raised_fails NoMsgr2 read h = ap raise h
raised_fails TooMany read h = ap raise h
raised_fails NoMemory read h = tt

pub main_same : (addrs : List AnyAddr) → main_of (bares addrs) ≡ main_of addrs
main_same [] = refl
main_same (V4 a ∷ addrs) = rw (main_same addrs) refl
main_same (Other b ∷ addrs) = main_same addrs

-- where an address lies in memory doesn't say whether it is the main one
pub main_stays : (addrs : List AnyAddr) → has_main (bares addrs) ≡ has_main addrs
main_stays addrs = ap is_ok (main_same addrs)
