-- Nodes in memory and the sockets between them before the first deed of a run. This project's own.
use Rattle.std.specs.Prelude.{◌≡◌, ℕ, List, [], length, slice_get, Some}
use Rattle.std.specs.List.{AllByRecursion}
use Rattle.m2_fabric.specs.m2_addr.declared.addr.Addr.{Addr}
use Rattle.m2_script.specs.m2_center.Making.{sessions_at_first}
use Rattle.m2_links_go_on.specs.m2_growth.Holding.{Holding}
use Rattle.m2_script.specs.m2_record.IsRecord.{IsRecord}
use Rattle.m2_script.specs.m2_record.RecordNow.{RecordNow, ends_of}
use Rattle.m2_promise.specs.Running.{HoldsAll, IsRecordAt, RunNow}
use Rattle.m2_fabric.specs.SimFabric.{AreApart, fresh_fabric}
use Rattle.m2_script.specs.m2_center.m2_turn.Halves.{halves_of}
use Rattle.m2_script.specs.m2_center.m2_turn.Sessions.{AreConsistent, Supply}

-- a record that did nothing: it has no entries, took no half and has no end
pub record IsUnused (r : RecordNow) : Type 0 where
  pub is : IsRecord r
  pub journal : r.journal ≡ []
  pub trails : r.trails ≡ []
  pub ends : ends_of r ≡ []

-- The node at this place: its port in memory made no socket and none waits there, there are no halves, and its records did nothing.
-- They are consistent, as a center asks of them where it is made, and each is between the node and another.
pub record IsNewAt (addrs : List Addr) (i : ℕ) (h : Holding) : Type 0 where
  pub at : slice_get addrs i ≡ Some h.port.at
  pub made : h.port.made ≡ []
  pub waiting : h.port.waiting ≡ Some []
  pub halves : h.halves ≡ halves_of [] []
  pub records : AllByRecursion IsUnused h.records
  pub sides : AllByRecursion (IsRecordAt addrs i) h.records
  pub supply : Supply
  pub entity : ℕ
  pub consistent : AreConsistent supply entity (sessions_at_first h.port h.records)

-- The fabric had no call yet and its nodes are apart; each node is a new one; and the holder has the ends that they hold, which
-- are none.
pub record IsBeginning (x : RunNow) : Type 0 where
  pub fabric : x.fabric ≡ fresh_fabric x.fabric.nodes
  pub apart : AreApart x.fabric.nodes
  pub nodes : x.holder.nodes ≡ length x.fabric.nodes
  pub holds : HoldsAll x
  pub each : (i : ℕ) (h : Holding) → slice_get x.holdings i ≡ Some h → IsNewAt x.fabric.nodes i h
