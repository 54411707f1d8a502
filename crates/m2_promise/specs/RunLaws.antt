-- What is promised of a run of nodes in memory.
use Rattle.std.specs.Prelude.{ℕ}
use Rattle.m2_links_go_on.specs.m2_growth.Holding.{Holding}
use Rattle.m2_script.specs.m2_record.RecordNow.{RecordNow}
use Rattle.m2_promise.specs.Running.{HaveOrders, IsLinkOf, IsRunning, NodeActs, RunNow}

-- Where a node acts, what holds always holds still.
abbrev pub ActingKeepsRunning : Type 0
ActingKeepsRunning = (i : ℕ) (old new : RunNow) → IsRunning old → NodeActs i old new → IsRunning new

-- And where all that was done on each link had an order, it has one behind it.
abbrev pub ActingKeepsOrders : Type 0
ActingKeepsOrders = (i : ℕ) (old new : RunNow) → IsRunning old → NodeActs i old new → HaveOrders old → HaveOrders new

-- There are such nodes, with a link between them.
pub record ANodeActs : Type 0 where
  pub node : ℕ
  pub old : RunNow
  pub new : RunNow
  pub running : IsRunning old
  pub orders : HaveOrders old
  pub acts : NodeActs node old new
  pub h : Holding
  pub g : Holding
  pub a : RecordNow
  pub b : RecordNow
  pub link : IsLinkOf old h g a b
