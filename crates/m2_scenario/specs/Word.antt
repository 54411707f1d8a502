-- What single words spell: numbers, bytes and names.
use Rattle.std.specs.Prelude.{◌≡◌, ℕ, ◌^◌, ◌==◌, nat_lt, nat_le, ◌&&◌, ◌||◌, Bool, if◌then◌else◌, List, length, Option, Some, None, Result, Ok, Err}
use Rattle.std.specs.List.{list_all}
use Rattle.std.specs.Str.{bytes_eq}
use Rattle.std.specs.Str.Parse.{digits_value}
use Rattle.std.specs.Fmt.{decimal}
use Rattle.m2_bytes.specs.Hexadecimal.{hex_value}
use Rattle.m2_bytes.specs.declared.blob.Blob.{Blob}
use Rattle.m2_scenario.specs.declared.kind.Kind.{Kind}
use Rattle.m2_scenario.specs.declared.kind.Kind.TheVariants as kind
use Rattle.m2_scenario.specs.declared.kind.LineFault.{LineFault}
use Rattle.m2_scenario.specs.declared.kind.LineFault.TheVariants as flaw
use Rattle.m2_scenario.specs.declared.word.TheConstants.{MOST_NAME_BYTES}
use Rattle.m2_scenario.specs.Steps.{or_kind}
use Rattle.m2_scenario.specs.Text.{Word}

-- the number below 2 ^ 64 whose canonical text the word is
unfoldable pub decimal_value : Word → Option ℕ
decimal_value w = if nat_lt (digits_value 10 w) (2 ^ 64) && bytes_eq w (decimal (digits_value 10 w)) then Some (digits_value 10 w) else None

-- a number of a range, or else the kind
unfoldable pub ranged : Kind → ℕ → ℕ → Option ℕ → Result ℕ Kind
ranged k least most None = Err k
ranged k least most (Some n) = if nat_le least n && nat_le n most then Ok n else Err k

abbrev pub number_of : Kind → ℕ → ℕ → Word → Result ℕ Kind
number_of k least most w = ranged k least most (decimal_value w)

-- the bytes that a hexadecimal word spells
abbrev pub bytes_of : Word → Result (List ℕ) Kind
bytes_of w = or_kind kind.Hex (hex_value w)

-- a to z, 0 to 9 and the underscore
abbrev pub is_name_byte : ℕ → Bool
is_name_byte b = (nat_le 97 b && nat_le b 122) || (nat_le 48 b && nat_le b 57) || (b == 95)

-- a name has one of them or more, and not too many
abbrev pub is_name : Word → Bool
is_name w = nat_le 1 (length w) && nat_le (length w) MOST_NAME_BYTES && list_all is_name_byte w

-- The bytes that a word spells, in memory, beside the bytes as they are defined. Memory may run out.
abbrev pub BytesRead : Result Blob LineFault → Result (List ℕ) Kind → Type 0
BytesRead (Ok b) asked = asked ≡ Ok b.bytes
BytesRead (Err (flaw.Bad k)) asked = asked ≡ Err k
BytesRead (Err flaw.NoMemory) asked = Unit {0}
