-- Vectors of addresses: their texts, how they are read, what is written, and the main address. Format:
-- entity_addrvec_t of Ceph's msgr2 documentation; the bound and the refusals are this project's profile.
--
-- A vector is u8 marker 2, u32 count, and that many addresses.
use Rattle.std.specs.Prelude.{◌≡◌, ℕ, zero, suc, ◌≤◌, ◌==◌, nat_le, if◌then◌else◌, List, [], ◌∷◌, ◌++◌, length, map, Option, Some, None, Result, Ok, Err}
use Rattle.std.specs.List.{flat_map, AllByRecursion}
use Rattle.std.specs.Int.{w32, to_le_bytes}
use Rattle.m2_addr.specs.declared.addr.Addr.{Addr}
use Rattle.m2_addr.specs.declared.addr.TheConstants.Addr.{MSGR2}
use Rattle.m2_addr.specs.declared.addr.AnyAddr.{AnyAddr}
use Rattle.m2_addr.specs.declared.addr.AnyAddr.TheVariants.{V4, Other}
use Rattle.m2_addr.specs.declared.vector.TheConstants.{MOST_ADDRESSES}
use Rattle.m2_addr.specs.declared.fault.AddrFault.{AddrFault}
use Rattle.m2_addr.specs.declared.fault.AddrFault.TheVariants.{Short, BadMarker, NoMsgr2, TooMany}
use Rattle.m2_addr.specs.Reading.{◌>>=◌, number, checked, marked, ◌⊳◌, made}
use Rattle.m2_addr.specs.Grammar.{◌▹◌, Nothing, IsNumber, Marked}
use Rattle.m2_addr.specs.Addr.{IsAddress, IsSound, bare, any_text, address_at}

-- addresses without where they lie in memory
abbrev pub bares : List AnyAddr → List AnyAddr
bares = map bare

-- ---- the text

abbrev pub AreAddresses : List AnyAddr → List ℕ → Type 0
AreAddresses [] = Nothing
AreAddresses (a ∷ addrs) = IsAddress a ▹ AreAddresses addrs

-- The text is one of a vector of these addresses, of which there are at most MOST_ADDRESSES.
abbrev pub IsVector : List AnyAddr → List ℕ → Type 0
IsVector addrs text = (length addrs ≤ MOST_ADDRESSES) × Marked 2 (IsNumber w32 (length addrs) ▹ AreAddresses addrs) text

-- a text of the vector stands at the front, and the rest follows
abbrev pub TakesVector : List AnyAddr → List ℕ → List ℕ → Type 0
TakesVector addrs bytes rest = (text : List ℕ) × IsVector addrs text × (bytes ≡ text ++ rest)

-- ---- reading, with the first fault

unfoldable pub addresses_at : ℕ → List ℕ → Result (List AnyAddr × List ℕ) AddrFault
addresses_at zero bytes = Ok ([], bytes)
addresses_at (suc n) bytes = made (λ x. x.0 ∷ x.1) (address_at ⊳ addresses_at n) bytes

abbrev pub count_at : List ℕ → Result (ℕ × List ℕ) AddrFault
count_at = marked 2 Short BadMarker (checked (λ n. nat_le n MOST_ADDRESSES) TooMany (number w32 Short))

unfoldable pub vector_at : List ℕ → Result (List AnyAddr × List ℕ) AddrFault
vector_at bytes = count_at bytes >>= λ n. addresses_at n.0 n.1

-- ---- what is written

abbrev pub vector_text : List AnyAddr → List ℕ
vector_text addrs = 2 ∷ to_le_bytes w32 (length addrs) ++ flat_map any_text addrs

-- what every vector keeps: at most MOST_ADDRESSES addresses, each with the text that is written of it
pub record IsKept (addrs : List AnyAddr) : Type 0 where
  pub few : length addrs ≤ MOST_ADDRESSES
  pub sound : AllByRecursion IsSound addrs

-- ---- the main address

-- the first IPv4 address of kind msgr2
abbrev pub main_of : List AnyAddr → Result Addr AddrFault
main_of [] = Err NoMsgr2
main_of (V4 a ∷ addrs) = if a.kind == MSGR2 then Ok a else main_of addrs
main_of (Other b ∷ addrs) = main_of addrs

-- none is NoMsgr2
abbrev pub option_main : Option Addr → Result Addr AddrFault
option_main (Some a) = Ok a
option_main None = Err NoMsgr2

-- the one that was found, or else the next where it is of kind msgr2
abbrev pub main_with : Option Addr → Option Addr → Option Addr
main_with (Some a) next = Some a
main_with None (Some a) = if a.kind == MSGR2 then Some a else None
main_with None None = None

-- the main address of so many addresses at the front, and the bytes after them
abbrev pub mains_at : ℕ → List ℕ → Result (Result Addr AddrFault × List ℕ) AddrFault
mains_at count bytes = addresses_at count bytes >>= λ x. Ok (main_of x.0, x.1)

-- the main address of the vector at the front, and the bytes after it
abbrev pub main_at : List ℕ → Result (Addr × List ℕ) AddrFault
main_at bytes = vector_at bytes >>= λ x. main_of x.0 >>= λ a. Ok (a, x.1)
