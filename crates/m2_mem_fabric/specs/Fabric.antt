-- What contracts see of a fabric between threads.
use Rattle.std.specs.Prelude.{ℕ, Bool, List}
use Rattle.m2_ports.specs.Nodes.{SeenNode}

-- its nodes, how many faults there were, and whether a node was listened for or split
pub record MemShown : Type 0 where
  pub nodes : List SeenNode
  pub faults : ℕ
  pub begun : Bool
