-- The fields that control payloads share: their texts and how they are read. Format: Ceph's msgr2 documentation;
-- the bounds are this project's profile.
use Rattle.std.specs.Prelude.{◌≡◌, ◌≢◌, ℕ, ℤ, zero, suc, ◌≤◌, Bool, true, not, ◌==◌, nat_le, is_ok, if◌then◌else◌, List, [], ◌∷◌, ◌++◌, length, Result, Ok, Err}
use Rattle.std.specs.List.{flat_map}
use Rattle.std.specs.Int.{Width, w8, w32, w64, to_le_bytes, cast_signed}
use Rattle.m2_addr.specs.declared.addr.Addr.{Addr}
use Rattle.m2_addr.specs.declared.addr.AnyAddr.{AnyAddr}
use Rattle.m2_addr.specs.declared.addr.AnyAddr.TheVariants.{V4}
use Rattle.m2_addr.specs.declared.fault.AddrFault.{AddrFault}
use Rattle.m2_addr.specs.declared.fault.AddrFault.TheVariants.{NoMsgr2}
use Rattle.m2_addr.specs.Reading.{◌>>=◌, number, prefix, checked, ◌⊳◌, made}
use Rattle.m2_addr.specs.Grammar.{◌▹◌, IsNumber, IsText, IsString}
use Rattle.m2_addr.specs.Addr.{IsAddress}
use Rattle.m2_addr.specs.Vector.{IsVector, vector_at, main_of}
use Rattle.m2_bytes.specs.Blob.{Contents}
use Rattle.m2_bytes.specs.Items.{Holding}
use Rattle.m2_control.specs.declared.fields.TheConstants.{GREATEST_NUMBER, MOST_LISTED, MOST_BYTES, SIGNATURE_BYTES}
use Rattle.m2_control.specs.declared.fault.ControlFault.{ControlFault}
use Rattle.m2_control.specs.declared.fault.ControlFault.TheVariants.{Short, BadValue, Address}

-- ---- texts

-- a two's complement number
abbrev pub IsSigned : Width → ℤ → List ℕ → Type 0
IsSigned w z text = (n : ℕ) × IsNumber w n text × (z ≡ cast_signed w n)

-- a global, connect or message number: at most GREATEST_NUMBER
abbrev pub IsBounded : ℕ → List ℕ → Type 0
IsBounded n text = IsNumber w64 n text × (n ≤ GREATEST_NUMBER)

-- a cookie that stands for a session
abbrev pub IsCookie : ℕ → List ℕ → Type 0
IsCookie n text = IsNumber w64 n text × (n ≢ 0)

-- one byte, 0 or 1
abbrev pub flag_byte : Bool → ℕ
flag_byte b = if b then 1 else 0

abbrev pub IsFlag : Bool → List ℕ → Type 0
IsFlag b = IsText (flag_byte b ∷ [])

-- numbers of four bytes behind a count of at most MOST_LISTED
abbrev pub AreNumbers : List ℕ → List ℕ → Type 0
AreNumbers [] text = text ≡ []
AreNumbers (n ∷ ns) text = (IsNumber w32 n ▹ AreNumbers ns) text

abbrev pub IsList : List ℕ → List ℕ → Type 0
IsList ns text = (length ns ≤ MOST_LISTED) × (IsNumber w32 (length ns) ▹ AreNumbers ns) text

-- at most MOST_BYTES bytes behind their count
abbrev pub IsShortString : List ℕ → List ℕ → Type 0
IsShortString bytes text = (length bytes ≤ MOST_BYTES) × IsString bytes text

-- a signature stands without a count
abbrev pub IsSignature : List ℕ → List ℕ → Type 0
IsSignature bytes text = IsText bytes text × (length bytes ≡ SIGNATURE_BYTES)

abbrev pub IsIpv4 : Addr → List ℕ → Type 0
IsIpv4 a = IsAddress (V4 a)

-- a vector with a main address
abbrev pub has_main : List AnyAddr → Bool
has_main addrs = is_ok (main_of addrs)

abbrev pub IsMainVector : List AnyAddr → List ℕ → Type 0
IsMainVector addrs text = IsVector addrs text × (has_main addrs ≡ true)

-- ---- reading, with the first fault

abbrev pub signed : Width → List ℕ → Result (ℤ × List ℕ) ControlFault
signed w = made (cast_signed w) (number w Short)

unfoldable pub bounded_at : ℕ → List ℕ → Result (ℕ × List ℕ) ControlFault
bounded_at field = checked (λ n. nat_le n GREATEST_NUMBER) (BadValue field) (number w64 Short)

unfoldable pub cookie_at : ℕ → List ℕ → Result (ℕ × List ℕ) ControlFault
cookie_at field = checked (λ n. not (n == 0)) (BadValue field) (number w64 Short)

unfoldable pub flag_at : ℕ → List ℕ → Result (Bool × List ℕ) ControlFault
flag_at field = made (λ n. n == 1) (checked (λ n. nat_le n 1) (BadValue field) (number w8 Short))

unfoldable pub numbers_at : ℕ → List ℕ → Result (List ℕ × List ℕ) ControlFault
numbers_at zero bytes = Ok ([], bytes)
numbers_at (suc n) bytes = made (λ x. x.0 ∷ x.1) (number w32 Short ⊳ numbers_at n) bytes

unfoldable pub list_at : ℕ → List ℕ → Result (List ℕ × List ℕ) ControlFault
list_at field bytes = checked (λ n. nat_le n MOST_LISTED) (BadValue field) (number w32 Short) bytes >>= λ n. numbers_at n.0 n.1

unfoldable pub string_at : ℕ → List ℕ → Result (List ℕ × List ℕ) ControlFault
string_at field bytes = checked (λ n. nat_le n MOST_BYTES) (BadValue field) (number w32 Short) bytes >>= λ n. prefix n.0 Short n.1

-- a field of an address, its faults raised
abbrev pub raise : {A : Type 0} → Result A AddrFault → Result A ControlFault
raise (Ok x) = Ok x
raise (Err e) = Err (Address e)

abbrev pub lifted : {A : Type 0} → (List ℕ → Result (A × List ℕ) AddrFault) → List ℕ → Result (A × List ℕ) ControlFault
lifted read bytes = raise (read bytes)

unfoldable pub vector_field : List ℕ → Result (List AnyAddr × List ℕ) ControlFault
vector_field = checked has_main (Address NoMsgr2) (lifted vector_at)

-- ---- what is written

abbrev pub list_text : List ℕ → List ℕ
list_text ns = to_le_bytes w32 (length ns) ++ flat_map (to_le_bytes w32) ns

abbrev pub string_text : List ℕ → List ℕ
string_text bytes = to_le_bytes w32 (length bytes) ++ bytes

-- numbers without where they lie in memory
abbrev pub listed : List ℕ → Holding ℕ
listed ns = record { items = ns; room = 0 }

-- bytes without where they lie in memory
abbrev pub blob : List ℕ → Contents
blob bytes = record { bytes = bytes; room = 0 }
