-- The words of which the lines of a run's trace are made. This project's own.
use Rattle.std.specs.Prelude.{ℕ, ◌==◌, ◌&&◌, if◌then◌else◌, List, [], ◌∷◌, ◌++◌, map, codes}
use Rattle.std.specs.Fmt.{decimal}
use Rattle.m2_fabric.specs.declared.socket.SocketId.{SocketId}
use Rattle.m2_scenario.specs.Report.{name_of}
use Rattle.m2_scenario.specs.declared.node.Node.{Node}
use Rattle.m2_trace.specs.Words.{Text, head, number_word}
use Rattle.m2_scenario.specs.Text.{word}

-- the name of the node at a place; nothing where there is none
abbrev pub name_in : List Node → (place : ℕ) → Text
name_in nodes place = word (map name_of nodes) place

-- the name of the first node that listens there; nothing where none does
abbrev pub name_at : List Node → (ip port : ℕ) → Text
name_at [] ip port = []
name_at (n ∷ ns) ip port = if (n.at.ip == ip) && (n.at.port == port) then n.name else name_at ns ip port

-- a socket as A-B/N, the N-th that A opened to B
unfoldable pub socket_name : List Node → SocketId → Text
socket_name nodes s = name_at nodes s.from_ip s.from_port ++ codes "-" ++ name_at nodes s.to_ip s.to_port ++ codes "/" ++ decimal s.turn

-- ---- lines of the script

-- `turn NODE MOMENT`
unfoldable pub turn_line : (name : Text) → (moment : ℕ) → Text
turn_line name moment = codes "turn " ++ name ++ number_word moment ++ codes "\n"

abbrev pub settle_line : Text
settle_line = codes "settle 1\n"

-- ---- lines of a node

-- what a line begins with that tells what a half did
unfoldable pub trail_head : (name : Text) → Text
trail_head name = codes "  " ++ head name (codes "trail")

-- and one that tells where the record towards a peer stands
unfoldable pub session_head : (name peer : Text) → Text
session_head name peer = codes "  " ++ head name (codes "session") ++ codes " " ++ peer

-- and one that tells what its throttle has out
unfoldable pub throttle_head : (name : Text) → Text
throttle_head name = codes "  " ++ head name (codes "throttle")

-- and one that tells what the record towards a peer did
unfoldable pub journal_head : (name peer : Text) → Text
journal_head name peer = codes "  " ++ head name (codes "journal") ++ codes " " ++ peer
