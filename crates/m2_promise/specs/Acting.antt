-- The nodes of a cluster as those of a run. This project's own.
use Rattle.std.specs.Prelude.{List, map}
use Rattle.m2_script.specs.m2_cluster.Cluster.{held_by}
use Rattle.m2_script.specs.m2_cluster.Node.{NodeNow}
use Rattle.m2_links_go_on.specs.Center.{holding_of}
use Rattle.m2_links_go_on.specs.m2_growth.Holding.{Holding}
use Rattle.m2_promise.specs.Running.{RunNow}
use Rattle.m2_fabric.specs.InStep.{SeenFabric}

-- what each node has of the sockets of its port
abbrev pub holdings_of : {D : Type 0} → List (NodeNow D) → List Holding
holdings_of {D} nodes = map (λ (n : NodeNow D). holding_of n.center) nodes

abbrev pub run_of : {D : Type 0} → List (NodeNow D) → SeenFabric → RunNow
run_of nodes fabric = record { holdings = holdings_of nodes; holder = held_by nodes; fabric = fabric }
