-- Vectors are read exactly, and what is written is a text of what was to be written.
use Rattle.std.proofs.Common.{◌≡◌, ℕ, zero, suc, ◌+◌, ◌-◌, ◌^◌, ◌<◌, ◌≤◌, true, leb, List, [], ◌∷◌, ◌++◌, length, get_or, take, drop, drop-cons, add-one, Result, Ok, Err, refl, sym, ap, subst, ◌∙◌, append_assoc, arith}
use Rattle.std.specs.Prelude.{IfOk}
use Rattle.std.specs.Global.{Vec}
use Rattle.std.specs.Int.{w16, w32, to_le_bytes, to_be_bytes}
use Rattle.std.specs.List.{flat_map, AllByRecursion}
use Rattle.std.proofs.lemmas.Bool.Decides.{nat_tests}
use Rattle.std.specs.List.{All}
use Rattle.std.proofs.lemmas.List.Elements.{All-from_recursion}
use Rattle.std.proofs.lemmas.List.{append-nil}
use Rattle.std.proofs.lemmas.List.Concat.{flat_map-cons}
use Rattle.std.proofs.lemmas.List.Folds.{length-flat_map-take}
use Rattle.std.proofs.lemmas.Nat.{from_be_bytes-to_be_bytes_2, from_be_bytes-to_be_bytes_4}
use Rattle.m2_addr.specs.declared.addr.Addr.{Addr}
use Rattle.m2_addr.specs.declared.addr.AnyAddr.{AnyAddr}
use Rattle.m2_addr.specs.declared.addr.AnyAddr.TheVariants.{V4, Other}
use Rattle.m2_addr.specs.declared.fault.AddrFault.{AddrFault}
use Rattle.m2_addr.specs.declared.fault.AddrFault.TheVariants.{Short, BadMarker, BadLength, NotIpv4, NoMsgr2, TooMany, NoMemory}
use Rattle.m2_addr.specs.Reading.{◌>>=◌, ◌⊳◌, made}
use Rattle.m2_addr.specs.Grammar.{IsBytes, ◌▹◌, IsNumber, Marked}
use Rattle.m2_addr.specs.Outcome.{Fails, GivesRest}
use Rattle.m2_addr.specs.Addr.{Shape, IsShape, IsAddress, IsSound, ipv4_text, any_text, address_at}
use Rattle.m2_addr.specs.Vector.{bares, AreAddresses, IsVector, TakesVector, addresses_at, count_at, vector_at, vector_text, main_of, IsKept}
use Rattle.m2_addr.proofs.Exact.{ok_is, Took, IsExact, wide32, number_exact, bind_exact, checked_exact, marked_exact, seq_exact, image_exact, same_exact}
use Rattle.m2_addr.proofs.Shape.{address_exact, address_bare}

-- ---- reading

abbrev Addresses : ℕ → List AnyAddr → List ℕ → Type 0
Addresses n addrs text = AreAddresses addrs text × (length addrs ≡ n)

there : (n : ℕ) (addrs : List AnyAddr) (text : List ℕ) → (x : AnyAddr × List AnyAddr) × (IsAddress x.0 ▹ Addresses n x.1) text × (addrs ≡ x.0 ∷ x.1) → Addresses (suc n) addrs text
there n addrs text (x, (prefix, back, p, q, e), is) = rw is ((prefix, back, p, q.0, e), ap suc q.1)

back : (n : ℕ) (addrs : List AnyAddr) (text : List ℕ) → Addresses (suc n) addrs text → (x : AnyAddr × List AnyAddr) × (IsAddress x.0 ▹ Addresses n x.1) text × (addrs ≡ x.0 ∷ x.1)
back n [] text (are, len) = absurd cc
back n (a ∷ addrs) text ((prefix, rest, p, q, e), len) = ((a, addrs), (prefix, rest, p, (q, cc), e), refl)

none : (addrs : List AnyAddr) (text rest : List ℕ) → Addresses 0 addrs text → (let r : Result (List AnyAddr × List ℕ) AddrFault = Ok ([], text ++ rest) in r) ≡ Ok (addrs, rest)
none [] text rest (are, len) = ap (λ (t : List ℕ). let r : Result (List AnyAddr × List ℕ) AddrFault = Ok ([], t ++ rest) in r) are
none (a ∷ addrs) text rest (are, len) = absurd cc

addresses_exact : (n : ℕ) → IsExact (addresses_at n) (Addresses n)
unfolding addresses_at
addresses_exact zero = record {
  takes = λ bytes addrs rest fits e.
      let took : Took (Addresses 0) bytes [] bytes = record { text = []; parts = refl; spelled = (refl, refl); rest_fits = fits } in
      subst (λ (y : List AnyAddr × List ℕ). Took (Addresses 0) bytes y.0 y.1) (ok_is {F = AddrFault} ([], bytes) (addrs, rest) e) took;
  again = λ addrs text rest h. none addrs text rest h;
}
addresses_exact (suc n) = same_exact (Addresses (suc n)) (image_exact (λ x. x.0 ∷ x.1) (seq_exact address_exact (addresses_exact n))) (there n) (back n)

abbrev Count : ℕ → List ℕ → Type 0
Count n = Marked 2 (λ t. IsNumber w32 n t × (leb n 64 ≡ true))

count_exact : IsExact count_at Count
count_exact = marked_exact 2 Short BadMarker (checked_exact (λ n. leb n 64) TooMany (number_exact w32 wide32 Short))

at_most : (n : ℕ) → leb n 64 ≡ true → n ≤ 64
at_most n e = grind (arith, nat_tests)

tests_most : (n : ℕ) → n ≤ 64 → leb n 64 ≡ true
tests_most n h = grind (arith, nat_tests)

vector_there : (addrs : List AnyAddr) (text : List ℕ) → (n : ℕ) × (Count n ▹ Addresses n addrs) text → IsVector addrs text
vector_there addrs text (n, (prefix, rest, (z, p, e1), q, e2)) =
    (rw q.1 (at_most n p.1), (z ++ rest, (z, rest, rw q.1 p.0, q.0, refl), e2 ∙ ap (λ (t : List ℕ). t ++ rest) e1))

vector_back : (addrs : List AnyAddr) (text : List ℕ) → IsVector addrs text → (n : ℕ) × (Count n ▹ Addresses n addrs) text
vector_back addrs text (few, (t, (z, rest, p, q, e2), e1)) =
    (length addrs, (2 ∷ z, rest, (z, (p, tests_most (length addrs) few), refl), (q, refl), e1 ∙ ap (λ (x : List ℕ). 2 ∷ x) e2))

pub vector_exact : IsExact vector_at IsVector
unfolding vector_at
vector_exact = same_exact IsVector (bind_exact {k = addresses_at} count_exact addresses_exact) vector_there vector_back

pub vector_found : (bytes : List ℕ) (r : Result (Vec AnyAddr) AddrFault) (new : List ℕ) → IsBytes bytes → GivesRest (λ v. bares v.items) r new (vector_at bytes) → IfOk r (λ v. TakesVector (bares v.items) bytes new)
vector_found bytes (Ok v) new fits given = let p = vector_exact.takes bytes (bares v.items) new fits given in (p.text, p.spelled, p.parts)
vector_found bytes (Err e) new fits given = tt

-- ---- reading one after the other, as a loop does

-- what was read before, and what is still read
abbrev pub with_prefix : List AnyAddr → Result (List AnyAddr × List ℕ) AddrFault → Result (List AnyAddr × List ℕ) AddrFault
with_prefix prefix read = read >>= λ x. Ok (prefix ++ x.0, x.1)

abbrev put_before : AnyAddr → Result (List AnyAddr × List ℕ) AddrFault → Result (List AnyAddr × List ℕ) AddrFault
put_before a read = made (λ x. x.0 ∷ x.1) ((λ bytes. Ok (a, bytes)) ⊳ (λ bytes. read)) []

regroup : (prefix : List AnyAddr) (a : AnyAddr) (read : Result (List AnyAddr × List ℕ) AddrFault) → with_prefix prefix (put_before a read) ≡ with_prefix (prefix ++ a ∷ []) read
regroup prefix a (Ok x) = ap (λ (ns : List AnyAddr). let r : Result (List AnyAddr × List ℕ) AddrFault = Ok (ns, x.1) in r) (simp append_assoc)
regroup prefix a (Err f) = refl

pub goes_on : (prefix : List AnyAddr) (count i : ℕ) (bytes : List ℕ) (a : AnyAddr) (after : List ℕ) (total : Result (List AnyAddr × List ℕ) AddrFault) → i < count → address_at bytes ≡ Ok (a, after)
    → with_prefix prefix (addresses_at (count - i) bytes) ≡ total → with_prefix (prefix ++ a ∷ []) (addresses_at (count - (i + 1)) after) ≡ total
unfolding addresses_at
goes_on prefix count i bytes a after total lt h so_far =
    let k : count - i ≡ suc (count - (i + 1)) = omega arith in
    let one : with_prefix prefix (addresses_at (count - i) bytes) ≡ with_prefix (prefix ++ a ∷ []) (addresses_at (count - (i + 1)) after) = rw (k, h) (regroup prefix a (addresses_at (count - (i + 1)) after)) in
    sym one ∙ so_far

fault_ends : (f : AddrFault) (prefix : List AnyAddr) (count i : ℕ) (bytes : List ℕ) (total : Result (List AnyAddr × List ℕ) AddrFault) → i < count → address_at bytes ≡ Err f
    → with_prefix prefix (addresses_at (count - i) bytes) ≡ total → total ≡ Err f
unfolding addresses_at
fault_ends f prefix count i bytes total lt h so_far =
    let k : count - i ≡ suc (count - (i + 1)) = omega arith in
    let one : with_prefix prefix (addresses_at (count - i) bytes) ≡ Err f = rw (k, h) refl in
    sym so_far ∙ one

pub ends : (f : AddrFault) (prefix : List AnyAddr) (count i : ℕ) (bytes : List ℕ) (total : Result (List AnyAddr × List ℕ) AddrFault) → i < count → Fails f (address_at bytes)
    → with_prefix prefix (addresses_at (count - i) bytes) ≡ total → Fails f total
ends Short prefix count i bytes total lt h so_far = fault_ends Short prefix count i bytes total lt h so_far
ends BadMarker prefix count i bytes total lt h so_far = fault_ends BadMarker prefix count i bytes total lt h so_far
ends BadLength prefix count i bytes total lt h so_far = fault_ends BadLength prefix count i bytes total lt h so_far
ends NotIpv4 prefix count i bytes total lt h so_far = fault_ends NotIpv4 prefix count i bytes total lt h so_far
ends NoMsgr2 prefix count i bytes total lt h so_far = fault_ends NoMsgr2 prefix count i bytes total lt h so_far
ends TooMany prefix count i bytes total lt h so_far = fault_ends TooMany prefix count i bytes total lt h so_far
ends NoMemory prefix count i bytes total lt h so_far = tt

pub is_done : (prefix : List AnyAddr) (count i : ℕ) (bytes : List ℕ) (total : Result (List AnyAddr × List ℕ) AddrFault) → count ≤ i → with_prefix prefix (addresses_at (count - i) bytes) ≡ total → total ≡ Ok (prefix, bytes)
unfolding addresses_at
is_done prefix count i bytes total le so_far =
    let k : count - i ≡ 0 = omega arith in
    let one : with_prefix prefix (addresses_at (count - i) bytes) ≡ Ok (prefix, bytes) = rw k (ap (λ (ns : List AnyAddr). let r : Result (List AnyAddr × List ℕ) AddrFault = Ok (ns, bytes) in r) (append-nil prefix)) in
    sym so_far ∙ one

-- ---- what is written

-- an IPv4 address as it is written is a text of it
pub ipv4_spelled : (a : Addr) → a.kind < 2 ^ 32 → a.nonce < 2 ^ 32 → a.ip < 2 ^ 32 → a.port < 2 ^ 16 → IsAddress (V4 a) (ipv4_text a)
ipv4_spelled a kind nonce ip port =
    let socket : List ℕ = to_le_bytes w16 2 ++ (to_be_bytes w16 a.port ++ (to_be_bytes w32 a.ip ++ 0 ∷ 0 ∷ 0 ∷ 0 ∷ 0 ∷ 0 ∷ 0 ∷ 0 ∷ [])) in
    let rest : List ℕ = to_le_bytes w32 a.kind ++ (to_le_bytes w32 a.nonce ++ (to_le_bytes w32 16 ++ socket)) in
    let s : Shape = record { version = 1; rest = rest; kind = a.kind; nonce = a.nonce; socket = socket } in
    let is : IsShape s (ipv4_text a) = record { whole = refl; more = []; rest = refl; least = omega arith; most = omega arith; version = λ (e : 1 ≡ 0). omega arith; version_fits = omega arith; kind = kind; nonce = nonce; socket = λ (e : 16 ≡ 1). omega arith } in
    (s, is, rw (from_be_bytes-to_be_bytes_4 a.ip ip, from_be_bytes-to_be_bytes_2 a.port port) refl)

-- ---- how long a text is

pub short_text : (a : AnyAddr) → IsSound a → length (any_text a) ≤ 4103
short_text (V4 a) sound = omega arith
short_text (Other b) (s, is, same) = omega (arith, is.most, ap length is.whole)

pub sound_at : (addrs : List AnyAddr) → AllByRecursion IsSound addrs → All IsSound addrs
sound_at addrs all = All-from_recursion IsSound addrs all

pub no_room : (addrs : List AnyAddr) (i : ℕ) (a : AnyAddr) (old room : ℕ) → i < length addrs → a ≡ get_or addrs i a → length (flat_map any_text addrs) ≤ old → old ≤ room + length (flat_map any_text (take i addrs)) → room < length (any_text a) → ⊥
no_room addrs i a old room lt is fits so_far short =
    let at : length (any_text (get_or addrs i a)) ≡ length (any_text a) = ap (λ (x : AnyAddr). length (any_text x)) (sym is) in
    omega (arith, length-flat_map-take any_text addrs i a lt, at)

-- ---- the main address

pub main_goes_on : (addrs : List AnyAddr) (i : ℕ) (a : AnyAddr) (total : Result Addr AddrFault) → i < length addrs → a ≡ get_or addrs i a → main_of (drop i addrs) ≡ total → main_of (a ∷ drop (i + 1) addrs) ≡ total
main_goes_on addrs i a total lt is so_far =
    let split : drop i addrs ≡ a ∷ drop (i + 1) addrs = rw add-one (drop-cons addrs i a lt ∙ ap (λ (x : AnyAddr). x ∷ drop (suc i) addrs) (sym is)) in
    sym (ap main_of split) ∙ so_far

pub are_spelled : (addrs : List AnyAddr) → AllByRecursion IsSound addrs → AreAddresses (bares addrs) (flat_map any_text addrs)
are_spelled [] all = refl
are_spelled (a ∷ addrs) all = (any_text a, flat_map any_text addrs, all.0, are_spelled addrs all.1, flat_map-cons any_text a addrs)

bares_length : (addrs : List AnyAddr) → length (bares addrs) ≡ length addrs
bares_length [] = refl
bares_length (a ∷ addrs) = ap suc (bares_length addrs)

pub vector_spelled : (addrs : List AnyAddr) → IsKept addrs → IsVector (bares addrs) (vector_text addrs)
vector_spelled addrs kept =
    let len = bares_length addrs in
    (rw len kept.few, (to_le_bytes w32 (length addrs) ++ flat_map any_text addrs, (to_le_bytes w32 (length addrs), flat_map any_text addrs, (rw len refl, rw len (omega (arith, kept.few))), are_spelled addrs kept.sound, refl), refl))

pub one_kept : (a : Addr) (items : List AnyAddr) → IsSound (V4 a) → items ≡ V4 a ∷ [] → IsKept items
one_kept a items sound is = rw is (record { few = omega arith; sound = (sound, tt) })

addresses_bare : (addrs : List AnyAddr) (text : List ℕ) → AreAddresses addrs text → bares addrs ≡ addrs
addresses_bare [] text are = refl
addresses_bare (a ∷ addrs) text (prefix, back, p, q, e) = ap (λ (x : AnyAddr). x ∷ bares addrs) (address_bare a prefix p) ∙ ap (λ (xs : List AnyAddr). a ∷ xs) (addresses_bare addrs back q)

pub vector_bare : (addrs : List AnyAddr) (text : List ℕ) → IsVector addrs text → bares addrs ≡ addrs
vector_bare addrs text (few, (back, (prefix, rest, p, q, e2), e1)) = addresses_bare addrs rest q
