-- The scenario so far, as a reader sees it: a post is its header and the bytes of its parts, wherever
-- they lie in memory.
use Rattle.std.specs.Prelude.{◌≡◌, ℕ, ◌==◌, Bool, true, false, ◌&&◌, ◌||◌, List, [], ◌∷◌, ◌++◌, zero, suc, map, Option, Some, None, unwrap_or}
use Rattle.std.specs.List.{list_any}
use Rattle.std.specs.Str.{bytes_eq}
use Rattle.m2_addr.specs.declared.addr.Addr.{Addr}
use Rattle.m2_message.specs.Message.{Content, content_of}
use Rattle.m2_scenario.specs.Text.{Word}
use Rattle.m2_scenario.specs.declared.node.Node.{Node}
use Rattle.m2_scenario.specs.declared.link.Link.{Link}
use Rattle.m2_scenario.specs.declared.line.Line.{Line}
use Rattle.m2_scenario.specs.declared.line.Line.TheVariants as line
use Rattle.m2_scenario.specs.declared.limits.TheConstants.{USUAL_LIMIT}
use Rattle.m2_scenario.specs.declared.scenario.Scenario.{Scenario}

-- a line of a scenario that is no node and no link
pub data DraftLine : Type 0 where
  post : ℕ → ℕ → Content → DraftLine
  dial : ℕ → ℕ → DraftLine
  down : ℕ → ℕ → DraftLine
  cut : ℕ → ℕ → ℕ → DraftLine
  turn : ℕ → DraftLine
  flow : ℕ → ℕ → ℕ → ℕ → DraftLine
  fault : ℕ → ℕ → ℕ → DraftLine
  settle : ℕ → DraftLine

abbrev pub draft_line : Line → DraftLine
draft_line (line.Post a b message) = post a b (content_of message)
draft_line (line.Dial a b) = dial a b
draft_line (line.Down a b) = down a b
draft_line (line.Cut a b bytes) = cut a b bytes
draft_line (line.Turn a) = turn a
draft_line (line.Flow a b socket most) = flow a b socket most
draft_line (line.Fault a b socket) = fault a b socket
draft_line (line.Settle rounds) = settle rounds

-- the nodes, links and lines so far, each in the order of the text, and the limit in milliseconds of
-- real time if one was set
pub record Draft : Type 0 where
  pub nodes : List Node
  pub links : List Link
  pub lines : List DraftLine
  pub limit : Option ℕ

abbrev pub no_lines : Draft
no_lines = record { nodes = []; links = []; lines = []; limit = None }

abbrev pub with_node : Draft → Node → Draft
with_node d n = record d { nodes = d.nodes ++ n ∷ [] }

abbrev pub with_link : Draft → Link → Draft
with_link d l = record d { links = d.links ++ l ∷ [] }

abbrev pub with_line : Draft → DraftLine → Draft
with_line d l = record d { lines = d.lines ++ l ∷ [] }

abbrev pub with_limit : ℕ → Draft → Draft
with_limit milliseconds d = record d { limit = Some milliseconds }

-- the nodes, with the one at this place not started
abbrev pub without : ℕ → List Node → List Node
without a [] = []
without zero (n ∷ ns) = record n { started = false } ∷ ns
without (suc a) (n ∷ ns) = n ∷ without a ns

abbrev pub without_start : ℕ → Draft → Draft
without_start a d = record d { nodes = without a d.nodes }

-- the scenario is the draft; a limit that was never set is the usual one
pub record IsMade (s : Scenario) (d : Draft) : Type 0 where
  pub nodes : s.nodes.items ≡ d.nodes
  pub links : s.links.items ≡ d.links
  pub lines : map draft_line s.lines.items ≡ d.lines
  pub limit : s.limit ≡ unwrap_or d.limit USUAL_LIMIT

-- ---- what is looked up

-- the node has this name
abbrev pub is_named : Word → Node → Bool
is_named name n = bytes_eq n.name name

-- the node stands at this ip and port
abbrev pub is_at : Addr → Node → Bool
is_at at n = (n.at.ip == at.ip) && (n.at.port == at.port)

-- the link joins these two, named either way round
abbrev pub joins : ℕ → ℕ → Link → Bool
joins a b l = ((l.a == a) && (l.b == b)) || ((l.a == b) && (l.b == a))

abbrev pub are_joined : List Link → ℕ → ℕ → Bool
are_joined links a b = list_any (joins a b) links

-- ---- what is counted

abbrev pub is_post : DraftLine → Bool
is_post (post _ _ _) = true
is_post _ = false

abbrev pub is_cut : DraftLine → Bool
is_cut (cut _ _ _) = true
is_cut _ = false

abbrev pub is_fault : DraftLine → Bool
is_fault (fault _ _ _) = true
is_fault _ = false

abbrev pub rounds_of : DraftLine → ℕ
rounds_of (settle rounds) = rounds
rounds_of _ = 0

-- a step of the plan of the node at place a: a post, a dial or a down
abbrev pub is_step_of : ℕ → DraftLine → Bool
is_step_of a (post from _ _) = from == a
is_step_of a (dial from _) = from == a
is_step_of a (down from _) = from == a
is_step_of a _ = false
