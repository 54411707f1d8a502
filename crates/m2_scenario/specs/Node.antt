-- The node of a line that has no options.
use Rattle.std.specs.Prelude.{ℕ, [], true}
use Rattle.m2_addr.specs.declared.addr.Addr.{Addr}
use Rattle.m2_scenario.specs.Text.{Word}
use Rattle.m2_scenario.specs.declared.node.Node.{Node}

-- one center, no kind that is dispatched at once, no limit on the bytes that it holds, all features supported and
-- none required
abbrev pub plain_node : Word → ℕ → Addr → Node
plain_node name entity at = record {
  name = name;
  entity = entity;
  at = at;
  centers = 1;
  fast = [];
  throttle = 0;
  supports = 18446744073709551615;
  requires_ = 0;
  started = true;
}
