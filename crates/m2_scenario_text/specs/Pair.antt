-- The nodes that a line names, by their places among the nodes above, from 0.
use Rattle.std.specs.Prelude.{◌≡◌, ℕ, ◌<◌, true, List, length, position, Result, Ok}
use Rattle.m2_scenario.specs.Text.{Word}
use Rattle.m2_scenario.specs.declared.node.Node.{Node}
use Rattle.m2_scenario.specs.Draft.{Draft, is_named, are_joined}
use Rattle.m2_scenario_text.specs.declared.flaw.Flaw.{Flaw}
use Rattle.m2_scenario_text.specs.declared.flaw.Wanted.TheVariants as wanted
use Rattle.m2_scenario_text.specs.Flaw.{◌>>=◌, or_want, want}

-- the place of the node of this name, which is the word behind the first one and so many others
abbrev pub place_of : ℕ → List Node → Word → Result ℕ Flaw
place_of behind nodes name = or_want behind wanted.NodeAbove (position (is_named name) nodes)

-- two nodes above with a link between them, which are the first two words behind the first
unfoldable pub pair_of : Draft → Word → Word → Result (ℕ × ℕ) Flaw
pair_of d first second = do
  a ← place_of 0 d.nodes first
  b ← place_of 1 d.nodes second
  _ ← want 1 wanted.LinkedNode (are_joined d.links a b)
  Ok (a, b)

-- two places of nodes that are joined
pub record AreJoined (d : Draft) (pair : ℕ × ℕ) : Type 0 where
  pub a : pair.0 < length d.nodes
  pub b : pair.1 < length d.nodes
  pub joined : are_joined d.links pair.0 pair.1 ≡ true
