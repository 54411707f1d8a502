-- What nodes hold where their ends are told of one another. This project's own.
use Rattle.std.specs.Prelude.{◌≡◌, ℕ, slice_get, Some}
use Rattle.m2_links_go_on.specs.ClusterTold.{OneByOne, SameHalves, SameRecord}
use Rattle.m2_links_go_on.specs.m2_growth.Holding.{Holding}
use Rattle.m2_links_go_on.specs.m2_growth.Passed.{HasItsEnds}
use Rattle.m2_promise.specs.Running.{HaveOrders, HoldsAll, IsNodeAt, IsRunning, RunNow}
use Rattle.m2_fabric.specs.InStep.{IsInStep, Network}

-- Records and halves are the same but for what their ends were told; of the port its address is, and the sockets that it made.
pub record SameHolding (old new : Holding) : Type 0 where
  pub at : new.port.at ≡ old.port.at
  pub made : new.port.made ≡ old.port.made
  pub records : OneByOne SameRecord old.records new.records
  pub halves : SameHalves old.halves new.halves

-- the fabric of a run, and the holder of all its ends
abbrev pub network_of : RunNow → Network
network_of x = record { fabric = x.fabric; holder = x.holder }

-- Each node holds the same but for what its ends were told and for the sockets that wait at its port. It is a node at its place
-- still, the holder has the ends of all, and they are in step with what flowed.
pub record NodesHear (old new : RunNow) : Type 0 where
  pub same : OneByOne SameHolding old.holdings new.holdings
  pub nodes : (i : ℕ) (h : Holding) → slice_get new.holdings i ≡ Some h → IsNodeAt new.fabric.nodes i h
  pub holds : HoldsAll new
  pub in_step : IsInStep (network_of new)

-- What holds always holds, each socket that a port made has its end and those that wait are open, and all that was done on each
-- link has an order.
pub record IsAtRest (x : RunNow) : Type 0 where
  pub running : IsRunning x
  pub ends : HasItsEnds (network_of x)
  pub orders : HaveOrders x
