-- What the lines of a node are made from. This project's own.
use Rattle.std.specs.Prelude.{ℕ, List, Option, Some, None, slice_get}
use Rattle.std.specs.Option.{option_map}
use denote.Ref.{Bor}
use Rattle.m2_promise.specs.m2_script.m2_cluster.m2_center.Center.{CenterNow}
use Rattle.m2_promise.specs.m2_script.m2_cluster.m2_center.Reaching.{ends_in}
use Rattle.m2_promise.specs.m2_script.m2_cluster.Node.{NodeNow}
use Rattle.m2_dispatch.specs.declared.logged.Logged.{Logged}
use Rattle.m2_fabric.specs.declared.log.EndLog.{EndLog}
use Rattle.m2_fabric.specs.declared.socket.SocketId.{SocketId}
use Rattle.m2_fabric.specs.End.{SeenEnd}
use Rattle.m2_fabric.specs.Log.{Log, log_of}
use Rattle.m2_promise.specs.m2_script.m2_record.Sources.{end_at}
use Rattle.m2_scenario.specs.declared.node.Node.{Node}

-- the center of a node in memory, whose dispatchers keep logs
abbrev pub TracedCenter : Type 0
TracedCenter = CenterNow (List Logged)

-- all nodes of the scenario, the one whose lines they are, and its center
pub record Telling : Type 0 where
  pub nodes : List Node
  pub own : Node
  pub center : TracedCenter

abbrev pub with_center : List Node → Node → Option (NodeNow (List Logged)) → Option Telling
with_center nodes own (Some n) = Some (record { nodes = nodes; own = own; center = n.center })
with_center nodes own None = None

abbrev pub with_own : List Node → List (NodeNow (List Logged)) → (node : ℕ) → Option Node → Option Telling
with_own nodes cluster node (Some own) = with_center nodes own (slice_get cluster node)
with_own nodes cluster node None = None

-- of the node at a place, if there is one
abbrev pub telling_at : List Node → List (NodeNow (List Logged)) → (node : ℕ) → Option Telling
telling_at nodes cluster node = with_own nodes cluster node (slice_get nodes node)

-- ---- its ends

-- what a look-up found
abbrev pub seen_log : Option (Bor EndLog) → Option Log
seen_log found = option_map (λ (l : Bor EndLog). log_of l.now) found

-- what its end of a socket did; none where it has none
abbrev pub log_in : TracedCenter → SocketId → Option Log
log_in center socket = option_map (λ (e : SeenEnd). e.log) (end_at (ends_in center) socket)
