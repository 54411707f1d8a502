-- What contracts see of the nodes of a fabric.
use Rattle.std.specs.Prelude.{ℕ, ◌==◌, Bool, if◌then◌else◌, List, [], ◌∷◌, position, Option, Some, None, IsSome}
use Rattle.std.specs.Option.{unwrap_or}
use Rattle.m2_addr.specs.declared.addr.Addr.{Addr}
use Rattle.m2_edge.specs.Faults.{next_count}
use Rattle.m2_fabric.specs.Fabric.{Gathered, SeenFabric}
use Rattle.m2_ports.specs.declared.nodes.TheConstants.{NOWHERE}

-- a node by its number: where it listens, if it does; how many ports are out, if any were handed out and not taken in
-- since; what was taken in last, if anything was; and how often something was
pub record SeenNode : Type 0 where
  pub number : ℕ
  pub listens : Option Addr
  pub out : Option ℕ
  pub gathered : Option Gathered
  pub gathers : ℕ

-- a node that did nothing so far
abbrev pub blank : ℕ → SeenNode
blank n = record { number = n; listens = None; out = None; gathered = None; gathers = 0 }

abbrev pub is_number : ℕ → SeenNode → Bool
is_number n s = s.number == n

-- the first node of a number, or one that did nothing so far
abbrev pub node_of : ℕ → List SeenNode → SeenNode
node_of n [] = blank n
node_of n (s ∷ ss) = if is_number n s then s else node_of n ss

-- a node of that number is there
abbrev pub IsThere : ℕ → List SeenNode → Type 0
IsThere n nodes = IsSome (position (is_number n) nodes)

-- so many ports of a node are handed out
abbrev pub handed_out : ℕ → SeenNode → SeenNode
handed_out ports s = record s { out = Some ports }

-- its ports and ends are taken in
abbrev pub taken_in : Gathered → SeenNode → SeenNode
taken_in what s = record s { out = None; gathered = Some what; gathers = next_count s.gathers }

-- what a fabric shows, by its faults and its nodes
abbrev pub shown : ℕ → List SeenNode → SeenFabric
shown faults nodes = record {
  faults = faults;
  listens = λ n. (node_of n nodes).listens;
  out = λ n. (node_of n nodes).out;
  gathered = λ n. (node_of n nodes).gathered;
  gathers = λ n. (node_of n nodes).gathers;
}

-- where the ports of a node stand: where it listens, if it does
abbrev pub at_of : ℕ → List SeenNode → Addr
at_of n nodes = unwrap_or (node_of n nodes).listens NOWHERE
