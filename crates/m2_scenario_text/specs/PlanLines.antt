-- The steps of a node's plan: `post A B KIND PRIORITY FRONT MIDDLE DATA`, `dial A B` and `down A B`.
use Rattle.std.specs.Prelude.{ℕ, ◌+◌, nat_lt, Bool, true, List, drop, count_by, Option, Some, None, Result, Ok}
use Rattle.m2_message.specs.Message.{Content}
use Rattle.m2_scenario.specs.declared.node.Node.{Node}
use Rattle.m2_scenario.specs.Text.{Word, word}
use Rattle.m2_scenario.specs.declared.limits.TheConstants.{MOST_POSTS}
use Rattle.m2_scenario_text.specs.declared.plan_lines.TheConstants.{LEAST_PRIORITY, MOST_PRIORITY}
use Rattle.m2_scenario.specs.Draft.{Draft, with_line, is_post, post, dial, down}
use Rattle.m2_scenario.specs.Posted.{posted}
use Rattle.m2_scenario.specs.Valid.{is_short}
use Rattle.m2_scenario_text.specs.declared.flaw.Flaw.{Flaw}
use Rattle.m2_scenario_text.specs.declared.flaw.Wanted.TheVariants as wanted
use Rattle.m2_scenario_text.specs.Flaw.{◌>>=◌, bytes_at, counted, number_at, want, want_first}
use Rattle.m2_scenario_text.specs.Pair.{pair_of}
use Rattle.std.specs.Prelude.{slice_get}

-- whether the node at a place is started
abbrev pub started : Option Node → Bool
started None = true
started (Some n) = n.started

-- two joined nodes of which the first is started
unfoldable pub planned_pair : Draft → Word → Word → Result (ℕ × ℕ) Flaw
planned_pair d first second = do
  pair ← pair_of d first second
  _ ← want 0 wanted.StartedNode (started (slice_get d.nodes pair.0))
  Ok pair

-- KIND PRIORITY FRONT MIDDLE DATA, behind the first word and so many others
unfoldable pub message_of : ℕ → List Word → Result Content Flaw
message_of behind ws = do
  k ← number_at behind 0 65535 (word ws 0)
  priority ← number_at (behind + 1) LEAST_PRIORITY MOST_PRIORITY (word ws 1)
  front ← bytes_at (behind + 2) (word ws 2)
  middle ← bytes_at (behind + 3) (word ws 3)
  tail ← bytes_at (behind + 4) (word ws 4)
  Ok (posted k priority front middle tail)

-- each part is short enough
unfoldable pub short_parts : Content → Result (Unit {0}) Flaw
short_parts message = do
  _ ← want 4 wanted.ShorterPart (is_short message.front)
  _ ← want 5 wanted.ShorterPart (is_short message.middle)
  want 6 wanted.ShorterPart (is_short message.tail)

unfoldable pub post_line : Draft → List Word → Result Draft Flaw
post_line d ws = do
  _ ← counted 7 7 ws
  message ← message_of 2 (drop 2 ws)
  pair ← planned_pair d (word ws 0) (word ws 1)
  _ ← short_parts message
  _ ← want_first wanted.FewerPosts (nat_lt (count_by is_post d.lines) MOST_POSTS)
  Ok (with_line d (post pair.0 pair.1 message))

-- the nodes of a line that names two and nothing else
unfoldable pub nodes_alone : Draft → List Word → Result (ℕ × ℕ) Flaw
nodes_alone d ws = do
  _ ← counted 2 2 ws
  planned_pair d (word ws 0) (word ws 1)

unfoldable pub dial_line : Draft → List Word → Result Draft Flaw
dial_line d ws = do
  pair ← nodes_alone d ws
  Ok (with_line d (dial pair.0 pair.1))

unfoldable pub down_line : Draft → List Word → Result Draft Flaw
down_line d ws = do
  pair ← nodes_alone d ws
  Ok (with_line d (down pair.0 pair.1))
