-- `node NAME ENTITY IP:PORT/NONCE` and options.
use Rattle.std.specs.Prelude.{nat_le, nat_lt, not, List, length, drop, Result, Ok}
use Rattle.std.specs.List.{list_any}
use Rattle.m2_scenario.specs.Text.{Word, word}
use Rattle.m2_scenario.specs.Word.{is_name}
use Rattle.m2_scenario.specs.Address.{address_of}
use Rattle.m2_scenario.specs.declared.limits.TheConstants.{MOST_NODES}
use Rattle.m2_scenario.specs.declared.node.Node.{Node}
use Rattle.m2_scenario.specs.Node.{plain_node}
use Rattle.m2_scenario.specs.Draft.{Draft, with_node, is_named, is_at}
use Rattle.m2_scenario_text.specs.declared.flaw.Flaw.{Flaw}
use Rattle.m2_scenario_text.specs.declared.flaw.Wanted.TheVariants as wanted
use Rattle.m2_scenario_text.specs.Flaw.{◌>>=◌, or_want, said, want, want_first}
use Rattle.m2_scenario_text.specs.Vocabulary.{entity_of}
use Rattle.m2_scenario_text.specs.NodeOption.{options_in, are_once, set_options}

-- the node that the words describe, wherever it stands
unfoldable pub node_of : List Word → Result Node Flaw
node_of ws = do
  _ ← want (length ws) wanted.MoreWords (nat_le 3 (length ws))
  given ← options_in (length ws) (drop 3 ws)
  _ ← are_once given
  _ ← want 0 wanted.NodeName (is_name (word ws 0))
  at ← said 2 wanted.SocketAddress (address_of (word ws 2))
  entity ← or_want 1 wanted.EntityType (entity_of (word ws 1))
  set_options given (plain_node (word ws 0) entity at)

unfoldable pub node_line : Draft → List Word → Result Draft Flaw
node_line d ws = do
  node ← node_of ws
  _ ← want 0 wanted.NewName (not (list_any (is_named node.name) d.nodes))
  _ ← want 2 wanted.NewSocket (not (list_any (is_at node.at) d.nodes))
  _ ← want_first wanted.FewerNodes (nat_lt (length d.nodes) MOST_NODES)
  Ok (with_node d node)
