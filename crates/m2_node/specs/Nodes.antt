-- What contracts see of a node of a run: of its event threads, and of what is left when they have ended. This project's own.
use Rattle.std.specs.Prelude.{◌≡◌, List, ◌++◌, map}
use Rattle.std.specs.List.{AllByRecursion, flat_map}
use Rattle.m2_addr.specs.declared.addr.Addr.{Addr}
use Rattle.m2_script.specs.m2_center.Center.{CenterNow}
use Rattle.m2_script.specs.m2_center.Making.{new_center}
use Rattle.m2_script.specs.m2_center.Reaching.{ends_in}
use Rattle.m2_script.specs.m2_cluster.Node.{NodeNow}
use Rattle.m2_dispatch.specs.declared.logged.Logged.{Logged}
use Rattle.m2_dispatch.specs.m2_shared.Numbers.{SeenNumbers}
use Rattle.m2_dispatch.specs.m2_shared.Gates.{pass_places, places}
use Rattle.m2_dispatch.specs.m2_shared.declared.throttles.Throttles.{Throttles}
use Rattle.m2_fabric.specs.End.{SeenEnd}
use Rattle.m2_fabric.specs.declared.socket.SocketId.{SocketId}
use Rattle.m2_script.specs.m2_record.RecordNow.{RecordNow}
use Rattle.m2_script.specs.Nodes.{none_drawn, none_granted}
use Rattle.m2_trail.specs.Arrivals.{LooseNow}
use Rattle.m2_node.specs.Ports.{off_port}

-- ---- a node

-- the centers of its event threads, in order; and what they share: the counter of global numbers, and the throttles
pub record RunNodeNow : Type 0 where
  pub centers : List (CenterNow (List Logged))
  pub numbers : SeenNumbers
  pub throttles : Throttles

-- the passes of a center are to these
pub record IsServedBy (numbers : SeenNumbers) (throttles : Throttles) (c : CenterNow (List Logged)) : Type 0 where
  pub numbers_place : c.numbers.place ≡ numbers.place
  pub throttles_places : pass_places c.bytes ≡ places throttles

-- those of its centers are to what it shares
abbrev pub IsRunNode : RunNodeNow → Type 0
IsRunNode n = AllByRecursion (IsServedBy n.numbers n.throttles) n.centers

-- ---- of all its centers, one after another

abbrev pub records_in : RunNodeNow → List RecordNow
records_in n = flat_map (λ (c : CenterNow (List Logged)). c.records) n.centers

-- what the dispatchers of fast kinds were called with, and those behind the queues
abbrev pub fast_in : RunNodeNow → List Logged
fast_in n = flat_map (λ (c : CenterNow (List Logged)). c.out.fast) n.centers

abbrev pub queued_in : RunNodeNow → List Logged
queued_in n = flat_map (λ (c : CenterNow (List Logged)). c.queued.inner) n.centers

-- the sockets that its ports made, and its ends
abbrev pub made_by : RunNodeNow → List SocketId
made_by n = flat_map (λ (c : CenterNow (List Logged)). c.port.made) n.centers

abbrev pub ends_of_node : RunNodeNow → List SeenEnd
ends_of_node n = flat_map ends_in n.centers

-- ---- as one

-- any address
abbrev pub nowhere : Addr
nowhere = record { kind = 0; nonce = 0; ip = 0; port = 0 }

-- The records and the calls of all its centers, as those of one. Of what a center has besides it tells nothing.
abbrev pub as_one : RunNodeNow → NodeNow (List Logged)
as_one n = record {
  center = new_center 0 (off_port nowhere) (records_in n) (fast_in n) (queued_in n) none_granted none_drawn;
  numbers = n.numbers;
  throttles = n.throttles;
}

-- ---- what is kept of a node

-- The node as its threads left it; and the halves that no record took, as those of the fabric's ends: of its centers; at its door, those
-- that weren't asked; and those that were and didn't come to their homes.
pub record KeptNow : Type 0 where
  pub node : RunNodeNow
  pub opened : List LooseNow
  pub at_door : List LooseNow
  pub on_way : List LooseNow

-- all of them
abbrev pub loose_at : KeptNow → List LooseNow
loose_at n = n.opened ++ n.at_door ++ n.on_way

-- nodes as their threads left them
abbrev pub nodes_of : List KeptNow → List RunNodeNow
nodes_of kept = map (λ (n : KeptNow). n.node) kept
