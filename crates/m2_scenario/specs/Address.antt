-- A node's address as it is written, IP:PORT/NONCE: four decimals with points, a port and a nonce.
use Rattle.std.specs.Prelude.{ℕ, [], ◌∷◌, Result, Ok}
use Rattle.std.specs.Int.{w32, from_be_bytes}
use Rattle.m2_addr.specs.declared.addr.Addr.{Addr}
use Rattle.m2_scenario.specs.declared.kind.Kind.{Kind}
use Rattle.m2_scenario.specs.declared.kind.Kind.TheVariants.{Address}
use Rattle.m2_scenario.specs.Steps.{◌>>=◌, or_kind}
use Rattle.m2_scenario.specs.Text.{Word, cut_at}
use Rattle.m2_scenario.specs.Word.{number_of}

abbrev pub parts : ℕ → Word → Result (Word × Word) Kind
parts mark w = or_kind Address (cut_at mark w)

abbrev pub octet_of : Word → Result ℕ Kind
octet_of w = number_of Address 0 255 w

-- the four bytes as one big-endian number
unfoldable pub ip_of : Word → Result ℕ Kind
ip_of w = do
  first ← parts 46 w
  second ← parts 46 first.1
  third ← parts 46 second.1
  a ← octet_of first.0
  b ← octet_of second.0
  c ← octet_of third.0
  d ← octet_of third.1
  Ok (from_be_bytes w32 (a ∷ b ∷ c ∷ d ∷ []))

-- an address of msgr2
unfoldable pub address_of : Word → Result Addr Kind
address_of w = do
  outer ← parts 47 w
  socket ← parts 58 outer.0
  ip ← ip_of socket.0
  port ← number_of Address 1 65535 socket.1
  nonce ← number_of Address 0 4294967295 outer.1
  Ok (record { kind = 2; nonce = nonce; ip = ip; port = port })
