-- The text of one address, and how it is read. Format: entity_addr_t of Ceph's msgr2 documentation; the
-- refusals and their order are this project's profile.
--
-- An address is u8 marker 1, u8 version, u8 compat 1, u32 length of the rest, and in the rest u32 kind,
-- u32 nonce, u32 length of the socket address, and the socket address; further bytes are ignored.
use Rattle.std.specs.Prelude.{◌≡◌, ◌≢◌, ℕ, ◌<◌, ◌≤◌, ◌^◌, Bool, not, ◌&&◌, ◌==◌, nat_le, if◌then◌else◌, List, [], ◌∷◌, ◌++◌, length, slice_index, Option, Some, None, Result, Ok}
use Rattle.std.specs.Int.{w8, w16, w32, to_le_bytes, to_be_bytes, from_be_bytes}
use Rattle.m2_addr.specs.declared.addr.Addr.{Addr}
use Rattle.m2_addr.specs.declared.addr.AnyAddr.{AnyAddr}
use Rattle.m2_addr.specs.declared.addr.AnyAddr.TheVariants.{V4, Other}
use Rattle.m2_addr.specs.declared.reading.TheConstants.{LEAST_LENGTH, MOST_LENGTH}
use Rattle.m2_addr.specs.declared.fault.AddrFault.{AddrFault}
use Rattle.m2_addr.specs.declared.fault.AddrFault.TheVariants.{Short, BadMarker, BadLength, NotIpv4}
use Rattle.m2_addr.specs.Reading.{◌>>=◌, number, prefix, checked, marked, ◌⊳◌, made}

-- ---- the text

-- the parts of a text of an address
pub record Shape : Type 0 where
  pub version : ℕ
  pub rest : List ℕ
  pub kind : ℕ
  pub nonce : ℕ
  pub socket : List ℕ

-- marker, version, compat, length
abbrev pub head_text : ℕ × ℕ → List ℕ
head_text h = 1 ∷ h.0 ∷ 1 ∷ to_le_bytes w32 h.1

-- the whole text
abbrev pub text_of : Shape → List ℕ
text_of s = head_text (s.version, length s.rest) ++ s.rest

-- the rest: kind, nonce, socket address with its length, and what is ignored
abbrev pub rest_of : Shape → List ℕ → List ℕ
rest_of s more = to_le_bytes w32 s.kind ++ (to_le_bytes w32 s.nonce ++ (to_le_bytes w32 (length s.socket) ++ (s.socket ++ more)))

pub record IsShape (s : Shape) (text : List ℕ) : Type 0 where
  pub whole : text ≡ text_of s
  pub more : List ℕ
  pub rest : s.rest ≡ rest_of s more
  pub least : LEAST_LENGTH ≤ length s.rest
  pub most : length s.rest ≤ MOST_LENGTH
  pub version : s.version ≢ 0
  pub version_fits : s.version < 2 ^ 8
  pub kind : s.kind < 2 ^ 32
  pub nonce : s.nonce < 2 ^ 32
  pub socket : length s.socket ≢ 1

-- A socket address is an IPv4 one where it has 16 bytes and family 2. Then come the port and the address,
-- both big-endian, and 8 bytes that are ignored.
abbrev pub is_ipv4 : Shape → Bool
is_ipv4 s = (length s.socket == 16) && (slice_index s.socket 0 == 2) && (slice_index s.socket 1 == 0)

abbrev pub ipv4_of : Shape → Addr
ipv4_of s = record {
  kind = s.kind;
  nonce = s.nonce;
  ip = from_be_bytes w32 (slice_index s.socket 4 ∷ slice_index s.socket 5 ∷ slice_index s.socket 6 ∷ slice_index s.socket 7 ∷ []);
  port = from_be_bytes w16 (slice_index s.socket 2 ∷ slice_index s.socket 3 ∷ []);
}

-- an address without where its bytes lie in memory
abbrev pub bare : AnyAddr → AnyAddr
bare (V4 a) = V4 a
bare (Other b) = Other (record { bytes = b.bytes; room = 0 })

-- the IPv4 address that an address is, where it is one
abbrev pub ipv4_in : AnyAddr → Option Addr
ipv4_in (V4 a) = Some a
ipv4_in (Other b) = None

-- an IPv4 address, or the whole text of any other
abbrev pub seen : Shape → AnyAddr
seen s = if is_ipv4 s then V4 (ipv4_of s) else Other (record { bytes = text_of s; room = 0 })

-- The text is one of this address. An IPv4 address has many, any other its own bytes alone.
abbrev pub IsAddress : AnyAddr → List ℕ → Type 0
IsAddress a text = (s : Shape) × IsShape s text × (a ≡ seen s)

-- the text with these parts stands at the front, and the rest follows
abbrev pub TakesShape : Shape → List ℕ → List ℕ → Type 0
TakesShape s bytes rest = IsShape s (text_of s) × (bytes ≡ text_of s ++ rest)

-- a text of the address stands at the front, and the rest follows
abbrev pub TakesAddress : AnyAddr → List ℕ → List ℕ → Type 0
TakesAddress a bytes rest = (text : List ℕ) × IsAddress a text × (bytes ≡ text ++ rest)

-- ---- what is written

-- an IPv4 address: version 1, no more bytes than it needs, and the ignored ones 0
abbrev pub ipv4_text : Addr → List ℕ
ipv4_text a = 1 ∷ 1 ∷ 1 ∷ to_le_bytes w32 28 ++ to_le_bytes w32 a.kind ++ to_le_bytes w32 a.nonce ++ to_le_bytes w32 16
    ++ to_le_bytes w16 2 ++ to_be_bytes w16 a.port ++ to_be_bytes w32 a.ip ++ 0 ∷ 0 ∷ 0 ∷ 0 ∷ 0 ∷ 0 ∷ 0 ∷ 0 ∷ []

-- any other address: its bytes
abbrev pub any_text : AnyAddr → List ℕ
any_text (V4 a) = ipv4_text a
any_text (Other b) = b.bytes

-- what is written of the address is a text of it
abbrev pub IsSound : AnyAddr → Type 0
IsSound a = IsAddress (bare a) (any_text a)

-- The bytes of any other address are those of a well-formed one that is no IPv4 address. Nothing is asked of an
-- IPv4 address.
abbrev pub IsWellFormed : AnyAddr → Type 0
IsWellFormed (V4 a) = Unit {0}
IsWellFormed (Other b) = IsSound (Other b)

-- ---- reading, with the first fault

-- version, and the length of the rest
unfoldable pub head_at : List ℕ → Result ((ℕ × ℕ) × List ℕ) AddrFault
head_at = marked 1 Short BadMarker (checked (λ v. not (v == 0)) BadMarker (number w8 Short)
    ⊳ marked 1 Short BadMarker (checked (λ n. nat_le LEAST_LENGTH n && nat_le n MOST_LENGTH) BadLength (number w32 Short)))

-- the socket address with its length
unfoldable pub socket_at : List ℕ → Result (List ℕ × List ℕ) AddrFault
socket_at bytes = checked (λ n. not (n == 1)) BadLength (number w32 Short) bytes >>= λ n. prefix n.0 BadLength n.1

-- kind, nonce and socket address of a rest, and what is ignored
abbrev pub body_at : List ℕ → Result ((ℕ × (ℕ × List ℕ)) × List ℕ) AddrFault
body_at = number w32 Short ⊳ number w32 Short ⊳ socket_at

unfoldable pub body_of : List ℕ → Result (ℕ × (ℕ × List ℕ)) AddrFault
body_of bytes = body_at bytes >>= λ body. Ok body.0

unfoldable pub shape_at : List ℕ → Result (Shape × List ℕ) AddrFault
shape_at bytes = head_at bytes >>= λ head. prefix head.0.1 Short head.1 >>= λ rest. body_of rest.0 >>= λ body.
    Ok (record { version = head.0.0; rest = rest.0; kind = body.0; nonce = body.1.0; socket = body.1.1 }, rest.1)

abbrev pub address_at : List ℕ → Result (AnyAddr × List ℕ) AddrFault
address_at = made seen shape_at

-- an IPv4 address, any other being NotIpv4
abbrev pub ipv4_at : List ℕ → Result (Addr × List ℕ) AddrFault
ipv4_at = made ipv4_of (checked is_ipv4 NotIpv4 shape_at)
