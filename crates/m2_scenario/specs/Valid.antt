-- When a scenario is valid.
use Rattle.std.specs.Prelude.{◌≡◌, ◌≢◌, ℕ, ◌<◌, ◌≤◌, nat_le, Bool, ◌&&◌, true, false, List, length, map, All, AllPairs}
use Rattle.m2_addr.specs.declared.addr.TheConstants.Addr.{MSGR2}
use Rattle.m2_policy.specs.Policy.{allows}
use Rattle.m2_scenario.specs.declared.node.Node.{Node}
use Rattle.m2_scenario.specs.declared.link.Link.{Link}
use Rattle.m2_scenario.specs.declared.limits.TheConstants.{MOST_NODES, MOST_LINKS, MOST_CENTERS, MOST_PART_BYTES, MOST_BYTES_BEFORE_CUT}
use Rattle.m2_scenario.specs.declared.scenario.Scenario.{Scenario}
use Rattle.m2_scenario.specs.Draft.{DraftLine, draft_line, joins, are_joined, post, dial, down, cut, turn, flow, fault, settle}
use Rattle.m2_scenario.specs.Counts.{counts_of, AreWithin}
use Rattle.m2_message.specs.Message.{Content}

-- two nodes have different names, and don't stand at one ip and port
pub record AreApart (m n : Node) : Type 0 where
  pub names : m.name ≢ n.name
  pub sockets : ¬ ((m.at.ip ≡ n.at.ip) × (m.at.port ≡ n.at.port))

-- a node has a center, and not too many
pub record HasCenters (n : Node) : Type 0 where
  pub one : 1 ≤ n.centers
  pub most : n.centers ≤ MOST_CENTERS

-- its address is one of msgr2
abbrev pub HasMsgr2 : Node → Type 0
HasMsgr2 n = n.at.kind ≡ MSGR2

-- a link joins two different nodes of so many by an allowed pair of policies
pub record IsLink (nodes : ℕ) (l : Link) : Type 0 where
  pub a : l.a < nodes
  pub b : l.b < nodes
  pub different : l.a ≢ l.b
  pub allowed : allows l.of_a l.of_b ≡ true

-- two links don't join the same nodes
abbrev pub JoinOthers : Link → Link → Type 0
JoinOthers l m = joins m.a m.b l ≡ false

-- the three parts of a post are short enough
abbrev pub is_short : List ℕ → Bool
is_short bytes = nat_le (length bytes) MOST_PART_BYTES

abbrev pub are_short : Content → Bool
are_short c = is_short c.front && is_short c.middle && is_short c.tail

-- each line but a turn and a settle has a link of its two nodes, a post's parts are short enough, and a
-- cut comes soon enough
abbrev pub IsLine : ℕ → List Link → DraftLine → Type 0
IsLine nodes links (post a b message) = (are_joined links a b ≡ true) × (are_short message ≡ true)
IsLine nodes links (dial a b) = are_joined links a b ≡ true
IsLine nodes links (down a b) = are_joined links a b ≡ true
IsLine nodes links (cut a b bytes) = (are_joined links a b ≡ true) × (bytes ≤ MOST_BYTES_BEFORE_CUT)
IsLine nodes links (turn a) = a < nodes
IsLine nodes links (flow a b socket most) = are_joined links a b ≡ true
IsLine nodes links (fault a b socket) = are_joined links a b ≡ true
IsLine nodes links (settle rounds) = Unit {0}

-- nodes, links and lines that make a valid scenario
pub record IsSound (nodes : List Node) (links : List Link) (lines : List DraftLine) : Type 0 where
  pub few_nodes : length nodes ≤ MOST_NODES
  pub few_links : length links ≤ MOST_LINKS
  pub centers : All HasCenters nodes
  pub msgr2 : All HasMsgr2 nodes
  pub apart : AllPairs AreApart nodes
  pub joined : All (IsLink (length nodes)) links
  pub joined_once : AllPairs JoinOthers links
  pub in_place : All (IsLine (length nodes) links) lines
  pub within : AreWithin (counts_of lines)

abbrev pub IsValid : Scenario → Type 0
IsValid s = IsSound s.nodes.items s.links.items (map draft_line s.lines.items)
