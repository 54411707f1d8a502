-- The words of which the lines of a trace are made. Each begins with a space. This project's own.
use Rattle.std.specs.Prelude.{ℕ, ◌/◌, ◌%◌, Bool, true, false, List, ◌++◌, codes}
use Rattle.std.specs.Fmt.{decimal}
use Rattle.m2_addr.specs.declared.addr.Addr.{Addr}
use Rattle.m2_bytes.specs.Hexadecimal.{hex_text}
use Rattle.m2_fabric.specs.declared.socket.SocketId.{SocketId}
use Rattle.m2_policy.specs.declared.path.Key.{Key}
use Rattle.m2_policy.specs.declared.path.Path.{Path}
use Rattle.m2_policy.specs.declared.path.Path.TheVariants.{Fast, Queued}

abbrev pub Text : Type 0
Text = List ℕ

unfoldable pub number_word : ℕ → Text
number_word n = codes " " ++ decimal n

unfoldable pub flag_word : Bool → Text
flag_word true = codes " yes"
flag_word false = codes " no"

-- two hexadecimal digits a byte, and `-` for no bytes
unfoldable pub bytes_word : List ℕ → Text
bytes_word bytes = codes " " ++ hex_text bytes

-- ---- sockets: OPENER>ACCEPTOR/TURN, each of the two as IP:PORT

unfoldable pub dotted : ℕ → ℕ → Text
dotted m n = decimal m ++ codes "." ++ decimal n

-- the four bytes of an address, the greatest first
unfoldable pub ip_text : ℕ → Text
ip_text ip = dotted (ip / 16777216) (ip / 65536 % 256) ++ codes "." ++ dotted (ip / 256 % 256) (ip % 256)

unfoldable pub place_text : (ip port : ℕ) → Text
place_text ip port = ip_text ip ++ codes ":" ++ decimal port

unfoldable pub ends_text : SocketId → Text
ends_text s = place_text s.from_ip s.from_port ++ codes ">" ++ place_text s.to_ip s.to_port

unfoldable pub socket_word : SocketId → Text
socket_word s = codes " " ++ ends_text s ++ codes "/" ++ decimal s.turn

-- ---- addresses: IP:PORT/NONCE

unfoldable pub address_word : Addr → Text
address_word a = codes " " ++ place_text a.ip a.port ++ codes "/" ++ decimal a.nonce

-- ---- keys: a priority and a path

unfoldable pub path_word : Path → Text
path_word Fast = codes " fast"
path_word Queued = codes " queued"

unfoldable pub key_words : Key → Text
key_words k = number_word k.priority ++ path_word k.path

-- ---- a line: the side, what it tells of, its words, and a line feed

unfoldable pub head : (side what : Text) → Text
head side what = side ++ codes " " ++ what

unfoldable pub line : (side what words : Text) → Text
line side what words = head side what ++ words ++ codes "\n"
