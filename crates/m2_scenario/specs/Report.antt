-- The report of a run: a line for each call of a node's dispatchers. The texts are this project's own
-- (docs/SCENARIOS.md).
use Rattle.std.specs.Prelude.{◌≡◌, ℕ, ◌+◌, ◌*◌, ◌==◌, ◌<◌, Bool, true, false, List, ◌++◌, length, map, filter, All, codes}
use Rattle.std.specs.List.{flat_map, range_with_len, zip}
use Rattle.std.specs.Fmt.{decimal}
use denote.Ref.{Bor}
use Rattle.m2_bytes.specs.Hexadecimal.{hex_text}
use Rattle.m2_bytes.specs.Items.{Holding}
use Rattle.m2_message.specs.Message.{Content}
use Rattle.m2_policy.specs.declared.path.Key.{Key}
use Rattle.m2_policy.specs.declared.path.Path.{Path}
use Rattle.m2_policy.specs.declared.path.Path.TheVariants.{Fast, Queued}
use Rattle.m2_queues.specs.ByRank.{by_rank}
use Rattle.m2_dispatch.specs.Heard.{Heard, message, reset, heard_of, heard_by, is_message_from, peer_of}
use Rattle.m2_dispatch.specs.declared.logged.Logged.{Logged}
use Rattle.m2_scenario.specs.declared.node.Node.{Node}
use Rattle.m2_scenario.specs.Text.{Word, word}

-- ---- lines

abbrev pub path_word : Path → Word
path_word Fast = codes "fast"
path_word Queued = codes "queued"

-- `NODE from PEER PRIORITY PATH KIND FRONT MIDDLE DATA` and a line feed
abbrev pub dispatch_line : Word → Word → Key → Content → Word
dispatch_line node peer key m =
    node ++ codes " from " ++ peer ++ codes " " ++ decimal key.priority ++ codes " " ++ path_word key.path
    ++ codes " " ++ decimal m.header.kind ++ codes " " ++ hex_text m.front ++ codes " " ++ hex_text m.middle
    ++ codes " " ++ hex_text m.tail ++ codes "\n"

-- `NODE reset PEER` and a line feed
abbrev pub reset_line : Word → Word → Word
reset_line node peer = node ++ codes " reset " ++ peer ++ codes "\n"

-- the line of what a node heard, whose peer is a place among the names
abbrev pub line_of : List Word → Word → Heard → Word
line_of names node (message peer key number life m) = dispatch_line node (word names peer) key m
line_of names node (reset peer) = reset_line node (word names peer)

-- ---- their order

abbrev pub is_reset_by : ℕ → Heard → Bool
is_reset_by peer (message p key number life m) = false
is_reset_by peer (reset p) = p == peer

abbrev pub path_rank : Path → ℕ
path_rank Fast = 1
path_rank Queued = 0

-- the rank of a message: by its priority, and inside one priority fast before queued
abbrev pub rank_of : Heard → ℕ
rank_of (message peer key number life m) = key.priority * 2 + path_rank key.path
rank_of (reset peer) = 0

-- what was heard of a peer, sorted: its messages by rank, and after them its resets
abbrev pub sorted_of : List Heard → ℕ → List Heard
sorted_of heard peer = by_rank rank_of (filter (is_message_from peer) heard) ++ filter (is_reset_by peer) heard

-- what a node heard of so many nodes, in the order of its lines: as it was heard, or else sorted, peer by peer
abbrev pub in_order : Bool → ℕ → List Heard → List Heard
in_order false nodes heard = heard
in_order true nodes heard = flat_map (sorted_of heard) (range_with_len 0 nodes)

-- ---- the report

abbrev pub name_of : Node → Word
name_of n = n.name

-- the lines of one node, the others' names beside it
abbrev pub node_lines : Bool → List Word → Word → List Heard → Word
node_lines sorted names node heard = flat_map (line_of names node) (in_order sorted (length names) heard)

-- the lines of each node, in the order of the scenario, from what each has heard
abbrev pub report_of : Bool → List Node → List (List Heard) → Word
report_of sorted nodes heard = flat_map (λ p. node_lines sorted (map name_of nodes) (name_of p.0) p.1) (zip nodes heard)

-- ---- what a report is made of

-- the peer is one of so many nodes
abbrev pub IsPeerAmong : ℕ → Heard → Type 0
IsPeerAmong nodes h = peer_of h < nodes

abbrev pub IsOfNodes : ℕ → Logged → Type 0
IsOfNodes nodes l = IsPeerAmong nodes (heard_of l)

-- a log whose peers are among so many nodes
abbrev pub IsLogOf : ℕ → Holding Logged → Type 0
IsLogOf nodes log = All (IsOfNodes nodes) log.items

-- the log of each node, whose peers are nodes
pub record AreLogsOf (nodes : List Node) (logs : List (Holding Logged)) : Type 0 where
  pub each : length logs ≡ length nodes
  pub peers : All (IsLogOf (length nodes)) logs

-- what the log of a node tells
abbrev pub heard_in : Holding Logged → List Heard
heard_in log = heard_by log.items

-- what calls that are lent tell
abbrev pub told_by : List (Bor Logged) → List Heard
told_by calls = map (λ c. heard_of c.now) calls
