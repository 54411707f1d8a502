-- What is left of a run whose nodes are ended. This project's own.
use Rattle.std.specs.Prelude.{◌≡◌, List, [], map}
use Rattle.m2_cluster.specs.Cluster.{ClusterNow}
use Rattle.m2_cluster.specs.Node.{NodeNow}
use Rattle.m2_dispatch.specs.declared.logged.Logged.{Logged}
use Rattle.m2_script.specs.declared.calls.TurnCalls.{TurnCalls}
use Rattle.m2_script.specs.Script.{RunNow}
use Rattle.m2_fabric.specs.SimFabric.{fresh_fabric}
use Rattle.m2_script.specs.declared.ending.BothLogs.{BothLogs}

-- the run ends with these nodes and these calls, at whatever moment, and whatever is on its way between the nodes
pub record EndsWith (nodes : ClusterNow (List Logged)) (all : List TurnCalls) (s : RunNow (List Logged)) : Type 0 where
  pub cluster : s.cluster ≡ nodes
  pub calls : s.calls ≡ all

-- one that does, at moment 0 and with nothing on its way
abbrev pub ended : {D : Type 0} → ClusterNow D → List TurnCalls → RunNow D
ended cluster calls = record { cluster = cluster; fabric = fresh_fabric []; now = 0; calls = calls }

-- ---- the calls of a node's two dispatchers

pub record Both : Type 0 where
  pub fast : List Logged
  pub queued : List Logged

abbrev pub both_in : BothLogs → Both
both_in b = record { fast = b.fast.items; queued = b.queued.items }

abbrev pub both_of : NodeNow (List Logged) → Both
both_of n = record { fast = n.center.out.fast; queued = n.center.queued.inner }

-- these are the logs of all nodes of the run, in order, and these are its calls
pub record HeardBoth (logs : List BothLogs) (all : List TurnCalls) (s : RunNow (List Logged)) : Type 0 where
  pub both : map both_in logs ≡ map both_of s.cluster.nodes
  pub calls : s.calls ≡ all
