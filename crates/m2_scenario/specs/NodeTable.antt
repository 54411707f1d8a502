-- The look-ups of nodes, by name and by socket.
use Rattle.std.specs.Prelude.{◌≡◌, ℕ, ◌==◌, ◌&&◌, List, position}
use Rattle.std.specs.List.{list_any}
use Rattle.std.specs.Map.{lookup}
use Rattle.std.specs.Str.{bytes_eq}
use Rattle.std.specs.declared.vec.Vec.{Vec}
use Rattle.m2_addr.specs.declared.addr.Addr.{Addr}
use Rattle.m2_scenario.specs.declared.node.Node.{Node}
use Rattle.m2_scenario.specs.Text.{Word}
use Rattle.m2_scenario.specs.Draft.{is_named, is_at}

-- each name leads to the place of its node, and the ips and ports that are taken are those of the nodes
pub record AreLookUps {A : Type 0} (nodes : List Node) (places : List (Vec ℕ A × ℕ)) (taken : List (ℕ × ℕ)) : Type 0 where
  pub names : (name : Word) → lookup (λ k. bytes_eq name k.items) places ≡ position (is_named name) nodes
  pub sockets : (at : Addr) → list_any (λ k. (at.ip == k.0) && (at.port == k.1)) taken ≡ list_any (is_at at) nodes
