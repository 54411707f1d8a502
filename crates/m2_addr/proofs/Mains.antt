-- The main address, found while the addresses are read one after the other.
use Rattle.std.proofs.Common.{◌≡◌, ℕ, suc, ◌+◌, ◌-◌, ◌<◌, ◌≤◌, Bool, true, false, if◌then◌else◌, ◌==◌, List, [], ◌∷◌, Option, Some, None, Result, Ok, Err, refl, sym, ap, ◌∙◌, arith}
use Rattle.m2_addr.specs.declared.addr.Addr.{Addr}
use Rattle.m2_addr.specs.declared.addr.AnyAddr.{AnyAddr}
use Rattle.m2_addr.specs.declared.addr.AnyAddr.TheVariants.{V4, Other}
use Rattle.m2_addr.specs.declared.fault.AddrFault.{AddrFault}
use Rattle.m2_addr.specs.declared.fault.AddrFault.TheVariants.{NoMsgr2}
use Rattle.m2_addr.specs.Reading.{◌>>=◌, ◌⊳◌, made}
use Rattle.m2_addr.specs.Addr.{ipv4_in, address_at}
use Rattle.m2_addr.specs.Vector.{addresses_at, vector_at, count_at, main_of, option_main, main_with, mains_at, main_at}

abbrev Mains : Type 0
Mains = Result (Result Addr AddrFault × List ℕ) AddrFault

-- the main address among what was read before and what is still read
abbrev pub among : Option Addr → Result Addr AddrFault → Result Addr AddrFault
among (Some a) later = Ok a
among None later = later

abbrev pub with_main : Option Addr → Result (List AnyAddr × List ℕ) AddrFault → Mains
with_main found read = read >>= λ x. Ok (among found (main_of x.0), x.1)

by_kind : (is : Bool) (a : Addr) (later : List AnyAddr) → (if is then Ok a else main_of later) ≡ among (if is then Some a else None) (main_of later)
by_kind true a later = refl
by_kind false a later = refl

next_main : (found : Option Addr) (a : AnyAddr) (later : List AnyAddr) → among found (main_of (a ∷ later)) ≡ among (main_with found (ipv4_in a)) (main_of later)
next_main (Some m) a later = refl
next_main None (Other b) later = refl
next_main None (V4 a) later = by_kind (a.kind == 2) a later

abbrev put_before : AnyAddr → Result (List AnyAddr × List ℕ) AddrFault → Result (List AnyAddr × List ℕ) AddrFault
put_before a read = made (λ x. x.0 ∷ x.1) ((λ bytes. Ok (a, bytes)) ⊳ (λ bytes. read)) []

regroup : (found : Option Addr) (a : AnyAddr) (read : Result (List AnyAddr × List ℕ) AddrFault) → with_main found (put_before a read) ≡ with_main (main_with found (ipv4_in a)) read
regroup found a (Ok x) = ap (λ (m : Result Addr AddrFault). let r : Mains = Ok (m, x.1) in r) (next_main found a x.0)
regroup found a (Err f) = refl

-- what was read of an address, by its IPv4 address alone
abbrev Skim : Result (AnyAddr × List ℕ) AddrFault → Result (Option Addr × List ℕ) AddrFault
Skim read = read >>= λ x. Ok (ipv4_in x.0, x.1)

stepped : (found next : Option Addr) (k : ℕ) (read : Result (AnyAddr × List ℕ) AddrFault) (after : List ℕ) → Skim read ≡ Ok (next, after)
    → with_main found (made (λ x. x.0 ∷ x.1) ((λ (bytes : List ℕ). read) ⊳ addresses_at k) []) ≡ with_main (main_with found next) (addresses_at k after)
stepped found next k (Ok x) after e =
    let parts : (ipv4_in x.0, x.1) ≡ (next, after) = cc in
    let is : ipv4_in x.0 ≡ next = ap (λ (p : Option Addr × List ℕ). p.0) parts in
    let rest : x.1 ≡ after = ap (λ (p : Option Addr × List ℕ). p.1) parts in
    rw (← is, ← rest) (regroup found x.0 (addresses_at k x.1))
stepped found next k (Err f) after e = absurd cc

failed : (found : Option Addr) (f : AddrFault) (k : ℕ) (read : Result (AnyAddr × List ℕ) AddrFault) → Skim read ≡ Err f
    → with_main found (made (λ x. x.0 ∷ x.1) ((λ (bytes : List ℕ). read) ⊳ addresses_at k) []) ≡ Err f
failed found f k (Ok x) e = absurd cc
failed found f k (Err d) e = let same : d ≡ f = cc in rw same refl

pub goes_on : (found next : Option Addr) (count i : ℕ) (bytes after : List ℕ) (total : Mains) → i < count → made ipv4_in address_at bytes ≡ Ok (next, after)
    → with_main found (addresses_at (count - i) bytes) ≡ total → with_main (main_with found next) (addresses_at (count - (i + 1)) after) ≡ total
unfolding addresses_at
goes_on found next count i bytes after total lt h so_far =
    let k : count - i ≡ suc (count - (i + 1)) = omega arith in
    let one : with_main found (addresses_at (count - i) bytes) ≡ with_main (main_with found next) (addresses_at (count - (i + 1)) after) = rw k (stepped found next (count - (i + 1)) (address_at bytes) after h) in
    sym one ∙ so_far

pub ends : (f : AddrFault) (found : Option Addr) (count i : ℕ) (bytes : List ℕ) (total : Mains) → i < count → made ipv4_in address_at bytes ≡ Err f
    → with_main found (addresses_at (count - i) bytes) ≡ total → total ≡ Err f
unfolding addresses_at
ends f found count i bytes total lt h so_far =
    let k : count - i ≡ suc (count - (i + 1)) = omega arith in
    let one : with_main found (addresses_at (count - i) bytes) ≡ Err f = rw k (failed found f (count - (i + 1)) (address_at bytes) h) in
    sym so_far ∙ one

among_none : (found : Option Addr) → among found (Err NoMsgr2) ≡ option_main found
among_none (Some a) = refl
among_none None = refl

pub is_done : (found : Option Addr) (count i : ℕ) (bytes : List ℕ) (total : Mains) → count ≤ i → with_main found (addresses_at (count - i) bytes) ≡ total → total ≡ Ok (option_main found, bytes)
unfolding addresses_at
is_done found count i bytes total le so_far =
    let k : count - i ≡ 0 = omega arith in
    let one : with_main found (addresses_at (count - i) bytes) ≡ Ok (option_main found, bytes) = rw k (ap (λ (m : Result Addr AddrFault). let r : Mains = Ok (m, bytes) in r) (among_none found)) in
    sym so_far ∙ one

-- ---- of the whole vector

abbrev mains_in : Result (List AnyAddr × List ℕ) AddrFault → Mains
mains_in read = read >>= λ x. Ok (main_of x.0, x.1)

abbrev pub main_then : Result Addr AddrFault → List ℕ → Result (Addr × List ℕ) AddrFault
main_then m rest = m >>= λ a. Ok (a, rest)

abbrev pub main_in : Result (List AnyAddr × List ℕ) AddrFault → Result (Addr × List ℕ) AddrFault
main_in read = read >>= λ x. main_then (main_of x.0) x.1

picked : (read : Result (List AnyAddr × List ℕ) AddrFault) (m : Result Addr AddrFault) (rest : List ℕ) → mains_in read ≡ Ok (m, rest) → main_in read ≡ main_then m rest
picked (Ok x) m rest e =
    let parts : (main_of x.0, x.1) ≡ (m, rest) = cc in
    ap (λ (p : Result Addr AddrFault × List ℕ). main_then p.0 p.1) parts
picked (Err f) m rest e = absurd cc

refused : (read : Result (List AnyAddr × List ℕ) AddrFault) (f : AddrFault) → mains_in read ≡ Err f → main_in read ≡ Err f
refused (Ok x) f e = absurd cc
refused (Err d) f e = let same : d ≡ f = cc in rw same refl

pub main_found : (bytes mid rest : List ℕ) (count : ℕ) (m : Result Addr AddrFault) → count_at bytes ≡ Ok (count, mid) → mains_at count mid ≡ Ok (m, rest) → main_at bytes ≡ main_then m rest
unfolding vector_at
main_found bytes mid rest count m h e = rw h (picked (addresses_at count mid) m rest e)

pub main_refused : (bytes mid : List ℕ) (count : ℕ) (f : AddrFault) → count_at bytes ≡ Ok (count, mid) → mains_at count mid ≡ Err f → main_at bytes ≡ Err f
unfolding vector_at
main_refused bytes mid count f h e = rw h (refused (addresses_at count mid) f e)

pub no_count : (bytes : List ℕ) (f : AddrFault) → count_at bytes ≡ Err f → main_at bytes ≡ Err f
unfolding vector_at
no_count bytes f h = rw h refl
