-- What a field of a frame says, and its text in a line and in JSON (RFC 8259). The forms are this project's own; that
-- of an address is Ceph's.
use Rattle.std.specs.Prelude.{ℕ, ℤ, ◌/◌, ◌%◌, Bool, List, [], ◌∷◌, ◌++◌, map, codes, if◌then◌else◌}
use Rattle.std.specs.List.{flat_map}
use Rattle.std.specs.Fmt.{decimal, signed_decimal}
use Rattle.std.specs.Int.{w64, to_be_bytes}
use Rattle.m2_bytes.specs.Hexadecimal.{hex_text}
use Rattle.m2_addr.specs.declared.addr.Addr.{Addr}
use Rattle.m2_addr.specs.declared.addr.AnyAddr.{AnyAddr}
use Rattle.m2_addr.specs.declared.addr.AnyAddr.TheVariants.{V4, Other}
use Rattle.m2_frame_facts.specs.declared.style.Style.{Style}
use Rattle.m2_frame_facts.specs.declared.style.Style.TheVariants as style
use Rattle.m2_frame_facts.specs.FieldName.{before_name, behind_name, name_of}
use Rattle.m2_frame_facts.specs.declared.value.Value.{Value}
use Rattle.m2_frame_facts.specs.declared.value.Value.TheVariants as value
use Rattle.m2_frame_facts.specs.declared.value.Field.{Field}

-- an address apart from where its bytes lie: an IPv4 address, or the bytes of any other
pub data Place : Type 0 where
  ipv4 : Addr → Place
  other : List ℕ → Place

abbrev pub place_of : AnyAddr → Place
place_of (V4 a) = ipv4 a
place_of (Other b) = other b.bytes

-- what a field says
pub data Said : Type 0 where
  number : ℕ → Said
  signed : ℤ → Said
  flag : Bool → Said
  bits : ℕ → Said
  bytes : List ℕ → Said
  numbers : List ℕ → Said
  place : Place → Said
  places : List Place → Said
  word : List ℕ → Said

-- a field: its name, and what it says
pub record Told : Type 0 where
  pub name : List ℕ
  pub said : Said

abbrev pub said_by : Value → Said
said_by (value.Number n) = number n
said_by (value.Signed z) = signed z
said_by (value.Flag b) = flag b
said_by (value.Bits n) = bits n
said_by (value.Bytes b) = bytes b.now
said_by (value.Numbers ns) = numbers ns.now
said_by (value.Address a) = place (place_of a.now)
said_by (value.Ipv4 a) = place (ipv4 a.now)
said_by (value.Addresses addrs) = places (map place_of addrs.now)
said_by (value.Word w) = word w.now

abbrev pub told_by : Field → Told
told_by f = record { name = name_of f.name; said = said_by f.value }

-- ---- texts

-- a number's byte, or any, as one of the four of an address
unfoldable pub dotted : ℕ → ℕ → List ℕ
dotted a b = decimal a ++ codes "." ++ decimal b

-- the four bytes, the greatest first
unfoldable pub ip_text : ℕ → List ℕ
ip_text ip = dotted (ip / 16777216) (ip / 65536 % 256) ++ codes "." ++ dotted (ip / 256 % 256) (ip % 256)

unfoldable pub kind_text : ℕ → List ℕ
kind_text kind = codes "v" ++ decimal kind ++ codes ":"

unfoldable pub ip_port_text : (ip : ℕ) → (port : ℕ) → List ℕ
ip_port_text ip port = ip_text ip ++ codes ":" ++ decimal port

-- the kind, the four bytes, the port and the nonce
unfoldable pub ipv4_text : Addr → List ℕ
ipv4_text a = kind_text a.kind ++ ip_port_text a.ip a.port ++ codes "/" ++ decimal a.nonce

-- any other address by its bytes
abbrev pub place_text : Place → List ℕ
place_text (ipv4 a) = ipv4_text a
place_text (other text) = codes "other:" ++ hex_text text

-- in JSON a text stands in quotes
abbrev pub quote : Style → List ℕ
quote style.Line = []
quote style.Json = codes "\""

abbrev pub quoted : Style → List ℕ → List ℕ
quoted form text = quote form ++ text ++ quote form

-- texts behind the first, each behind a comma
abbrev pub more_texts : {X : Type 0} → (X → List ℕ) → List X → List ℕ
more_texts text items = flat_map (λ item. 44 ∷ text item) items

-- texts in brackets, with commas between them
abbrev pub list_text : {X : Type 0} → (X → List ℕ) → List X → List ℕ
list_text text [] = codes "[]"
list_text text (item ∷ items) = codes "[" ++ text item ++ more_texts text items ++ codes "]"

abbrev pub quoted_place : Style → Place → List ℕ
quoted_place form p = quoted form (place_text p)

-- 64 bits as 16 hexadecimal digits
abbrev pub bits_text : ℕ → List ℕ
bits_text n = codes "0x" ++ hex_text (to_be_bytes w64 n)

abbrev pub flag_text : Bool → List ℕ
flag_text b = if b then codes "true" else codes "false"

unfoldable pub said_text : Style → Said → List ℕ
said_text form (number n) = decimal n
said_text form (signed z) = signed_decimal z
said_text form (flag b) = flag_text b
said_text form (bits n) = quoted form (bits_text n)
said_text form (bytes bs) = quoted form (hex_text bs)
said_text form (numbers ns) = list_text decimal ns
said_text form (place p) = quoted_place form p
said_text form (places ps) = list_text (quoted_place form) ps
said_text form (word w) = quoted form w

unfoldable pub field_text : Style → Told → List ℕ
field_text form f = before_name form ++ f.name ++ behind_name form ++ said_text form f.said

abbrev pub fields_text : Style → List Told → List ℕ
fields_text form fields = flat_map (field_text form) fields
