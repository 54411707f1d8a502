-- What contracts see of a center, and what its type keeps. This project's own.
use Rattle.std.specs.Prelude.{ℕ, List}
use Rattle.m2_dispatch.specs.Dispatch.{Queued}
use Rattle.m2_dispatch.specs.Letters.{AreOwned}
use Rattle.m2_fabric.specs.Port.{SeenPort}
use Rattle.m2_record.specs.RecordNow.{RecordNow}
use Rattle.m2_shared.specs.Numbers.{SeenNumberPass}
use Rattle.m2_shared.specs.Gates.{pass_places}
use Rattle.m2_shared.specs.declared.throttles.TakePasses.{TakePasses}
use Rattle.m2_turn.specs.Halves.{AllHalves, sessions_with}
use Rattle.m2_turn.specs.Outbox.{OutboxNow, OwnsAll}
use Rattle.m2_turn.specs.Sessions.{AreConsistent, Sessions, Supply}

pub record CenterNow (D : Type 0) : Type 0 where
  -- the kind of its node
  pub entity : ℕ
  pub port : SeenPort
  -- the sockets of peers that no record took
  pub halves : AllHalves
  -- its records, in the order of the links
  pub records : List RecordNow
  -- where their parcels go: letters of fast kinds at once, the others by the mail into the queue
  pub out : OutboxNow D
  pub queued : Queued D
  -- its passes to the node's throttles and to its counter of global numbers
  pub bytes : TakePasses
  pub numbers : SeenNumberPass

-- ---- what its type keeps

abbrev pub sessions_in : {D : Type 0} → CenterNow D → Sessions
sessions_in c = sessions_with c.port.made c.records c.halves

abbrev pub supply_in : {D : Type 0} → CenterNow D → Supply
supply_in c = record { places = pass_places c.bytes; least = c.numbers.least }

-- Its records and halves are consistent, and all that it holds for the dispatchers was granted by the node's throttles.
pub record IsCenter {D : Type 0} (c : CenterNow D) : Type 0 where
  pub consistent : AreConsistent (supply_in c) c.entity (sessions_in c)
  pub out : OwnsAll (pass_places c.bytes) c.out
  pub queued : AreOwned (pass_places c.bytes) c.queued.waiting
