-- The facts of a SERVER_IDENT, from its main address and what stands behind its addresses.
use Rattle.std.proofs.Common.{◌≡◌, ℕ, ◌<◌, ◌≤◌, Bool, true, false, if◌then◌else◌, ◌==◌, List, [], ◌∷◌, length, Result, Ok, Err, refl, sym, ap, ◌∙◌, arith}
use Rattle.std.proofs.lemmas.Bool.{eq-eqb, ne_eqb}
use Rattle.m2_addr.specs.declared.addr.Addr.{Addr}
use Rattle.m2_addr.specs.declared.addr.AnyAddr.{AnyAddr}
use Rattle.m2_addr.specs.declared.addr.AnyAddr.TheVariants.{V4, Other}
use Rattle.m2_addr.specs.declared.fault.AddrFault.{AddrFault}
use Rattle.m2_addr.specs.declared.fault.AddrFault.TheVariants.{NoMsgr2}
use Rattle.m2_addr.specs.Reading.{◌>>=◌}
use Rattle.m2_addr.specs.Vector.{vector_at, main_of, main_at}
use Rattle.m2_addr.proofs.Exact.{ok_is}
use Rattle.m2_addr.proofs.Mains.{main_then, main_in}
use Rattle.m2_frame.specs.declared.tag.Tag.TheVariants as tag
use Rattle.m2_control.specs.declared.fault.ControlFault.{ControlFault}
use Rattle.m2_control.specs.declared.fault.ControlFault.TheVariants.{Extra, Address}
use Rattle.m2_control.specs.declared.ident.Tail.{Tail}
use Rattle.m2_control.specs.declared.server_ident.ServerIdent.{ServerIdent}
use Rattle.m2_control.specs.declared.server_facts.ServerFacts.{ServerFacts}
use Rattle.m2_control.specs.Fields.{has_main, raise, lifted, vector_field}
use Rattle.m2_control.specs.Ident.{tail_at}
use Rattle.m2_control.specs.Control.{payload_of}
use Rattle.m2_control.specs.ServerFacts.{facts_with, GivesFacts, GivesFactsRest}
use Rattle.m2_control.specs.ServerIdent.{make_server_ident, server_ident_at}

-- ---- the vector and its main address

by_kind : (is : Bool) (a : Addr) (later : Result Addr AddrFault) (f : AddrFault) → (later ≡ Err f → f ≡ NoMsgr2) → (if is then Ok a else later) ≡ Err f → f ≡ NoMsgr2
by_kind true a later f none h = absurd cc
by_kind false a later f none h = none h

main_error : (addrs : List AnyAddr) (f : AddrFault) → main_of addrs ≡ Err f → f ≡ NoMsgr2
main_error [] f h = cc
main_error (Other b ∷ addrs) f h = main_error addrs f h
main_error (V4 a ∷ addrs) f h = by_kind (a.kind == 2) a (main_of addrs) f (λ e. main_error addrs f e) h

abbrev with_main : Result (List AnyAddr × List ℕ) AddrFault → Result (List AnyAddr × List ℕ) ControlFault
with_main read = raise read >>= λ x. if has_main x.0 then Ok x else Err (Address NoMsgr2)

abbrev Vectors : Type 0
Vectors = Result (List AnyAddr × List ℕ) ControlFault

abbrev HasMain : List ℕ → Addr → Vectors → Type 0
HasMain rest main read = (addrs : List AnyAddr) × (read ≡ Ok (addrs, rest)) × (main_of addrs ≡ Ok main)

found_main : (x : List AnyAddr × List ℕ) (m : Result Addr AddrFault) (main : Addr) (rest : List ℕ) → main_of x.0 ≡ m → raise (main_then m x.1) ≡ Ok (main, rest) → HasMain rest main (with_main (Ok x))
found_main x (Err f) main rest is h = absurd cc
found_main x (Ok a) main rest is h =
    let parts : (a, x.1) ≡ (main, rest) = ok_is {F = ControlFault} (a, x.1) (main, rest) h in
    let same : a ≡ main = ap (λ (p : Addr × List ℕ). p.0) parts in
    let left : x.1 ≡ rest = ap (λ (p : Addr × List ℕ). p.1) parts in
    (x.0, (rw is (ap (λ (t : List ℕ). let r : Vectors = Ok (x.0, t) in r) left)), is ∙ ap (λ (b : Addr). let r : Result Addr AddrFault = Ok b in r) same)

found : (read : Result (List AnyAddr × List ℕ) AddrFault) (main : Addr) (rest : List ℕ) → raise (main_in read) ≡ Ok (main, rest) → HasMain rest main (with_main read)
found (Ok x) main rest h = found_main x (main_of x.0) main rest refl h
found (Err f) main rest h = absurd cc

missing_main : (x : List AnyAddr × List ℕ) (m : Result Addr AddrFault) (e : ControlFault) → main_of x.0 ≡ m → raise (main_then m x.1) ≡ Err e → with_main (Ok x) ≡ Err e
missing_main x (Ok a) e is h = absurd cc
missing_main x (Err f) e is h =
    let none : f ≡ NoMsgr2 = main_error x.0 f is in
    let same : Address f ≡ e = cc in
    let raised : Address NoMsgr2 ≡ e = rw (← none) same in
    rw is (ap (λ (d : ControlFault). let r : Vectors = Err d in r) raised)

missing : (read : Result (List AnyAddr × List ℕ) AddrFault) (e : ControlFault) → raise (main_in read) ≡ Err e → with_main read ≡ Err e
missing (Ok x) e h = missing_main x (main_of x.0) e refl h
missing (Err f) e h = let same : Address f ≡ e = cc in ap (λ (d : ControlFault). let r : Vectors = Err d in r) same

vector_found : (bytes rest : List ℕ) (main : Addr) → lifted main_at bytes ≡ Ok (main, rest) → HasMain rest main (vector_field bytes)
unfolding vector_field
vector_found bytes rest main h = found (vector_at bytes) main rest h

vector_missing : (bytes : List ℕ) (e : ControlFault) → lifted main_at bytes ≡ Err e → vector_field bytes ≡ Err e
unfolding vector_field
vector_missing bytes e h = missing (vector_at bytes) e h

-- ---- the ident at the front

pub facts_there : (facts : ServerFacts) (bytes mid rest : List ℕ) (main : Addr) (t : Tail) → lifted main_at bytes ≡ Ok (main, mid) → tail_at 2 mid ≡ Ok (t, rest)
    → facts ≡ facts_with main t
    → GivesFactsRest (Ok facts) rest (server_ident_at bytes)
facts_there facts bytes mid rest main t h e is =
    let v = vector_found bytes mid main h in
    let p : ServerIdent = make_server_ident (v.0, t) in
    let same : main ≡ facts.main = ap (λ (f : ServerFacts). f.main) (sym is) in
    (p, rw (v.1, e) refl, record { main = v.2 ∙ ap (λ (b : Addr). let r : Result Addr AddrFault = Ok b in r) same; numbers = rw is refl })

pub bad_main : (bytes : List ℕ) (e : ControlFault) → lifted main_at bytes ≡ Err e → server_ident_at bytes ≡ Err e
bad_main bytes e h = rw (vector_missing bytes e h) refl

pub bad_tail : (bytes mid : List ℕ) (main : Addr) (e : ControlFault) → lifted main_at bytes ≡ Ok (main, mid) → tail_at 2 mid ≡ Err e → server_ident_at bytes ≡ Err e
bad_tail bytes mid main e h t = rw ((vector_found bytes mid main h).1, t) refl

-- ---- the whole payload

pub whole_facts : (facts : ServerFacts) (bytes rest : List ℕ) → GivesFactsRest (Ok facts) rest (server_ident_at bytes) → length rest ≤ 0 → GivesFacts (Ok facts) (payload_of tag.ServerIdent bytes)
whole_facts facts bytes rest (p, h, are) none =
    let no_more : (length rest == 0) ≡ true = eq-eqb (length rest) 0 (omega arith) in
    (p, rw (h, no_more) refl, are)

pub extra_facts : (facts : ServerFacts) (bytes rest : List ℕ) → GivesFactsRest (Ok facts) rest (server_ident_at bytes) → 0 < length rest → payload_of tag.ServerIdent bytes ≡ Err Extra
extra_facts facts bytes rest (p, h, are) some =
    let more : (length rest == 0) ≡ false = ne_eqb (length rest) 0 (λ e. omega arith) in
    rw (h, more) refl

pub no_facts : (bytes : List ℕ) (e : ControlFault) → server_ident_at bytes ≡ Err e → payload_of tag.ServerIdent bytes ≡ Err e
no_facts bytes e h = rw h refl
