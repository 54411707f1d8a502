-- As what a node begins: what a scenario says of it and of its records. This project's own.
use Rattle.std.specs.Prelude.{◌≡◌, ℕ, List, map}
use Rattle.m2_cluster.specs.m2_center.Center.{CenterNow}
use Rattle.m2_cluster.specs.m2_center.m2_feed.m2_journal.declared.facts.PlanStep.{PlanStep}
use Rattle.m2_cluster.specs.m2_center.m2_feed.m2_journal.SideFacts.{SideFacts}
use Rattle.m2_cluster.specs.m2_center.m2_record.IsRecord.{new_record}
use Rattle.m2_cluster.specs.m2_center.m2_record.RecordNow.{RecordNow}
use Rattle.m2_fabric.specs.m2_addr.declared.addr.Addr.{Addr}

-- ---- a record

-- the place of its peer, the addresses and facts that never change, and what it is to do
pub record SideMade : Type 0 where
  pub place : ℕ
  pub facts : SideFacts
  pub plan : List PlanStep

abbrev pub side_made : RecordNow → SideMade
side_made r = record { place = r.place; facts = r.core.facts; plan = r.plan }

-- nothing was done: it is as it was made, but that its plan was filled, and for room
abbrev pub IsBegun : RecordNow → Type 0
IsBegun r = r ≡ record (new_record r.core.facts r.place r.core.live.granted.peer) { plan = r.plan; room = r.room }

-- ---- a node

-- its kind, where it listens, and its records, in the order of the links
pub record NodeMade : Type 0 where
  pub entity : ℕ
  pub at : Addr
  pub sides : List SideMade

abbrev pub node_made : {D : Type 0} → CenterNow D → NodeMade
node_made c = record { entity = c.entity; at = c.port.at; sides = map side_made c.records }
