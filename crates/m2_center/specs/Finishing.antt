-- The end of a center, and what is left of it. This project's own.
use Rattle.std.specs.Prelude.{List}
use Rattle.std.specs.List.{AllByRecursion}
use Rattle.m2_dispatch.specs.Dispatch.{Queued}
use Rattle.m2_dispatch.specs.Letters.{AreOwned}
use Rattle.m2_fabric.specs.Port.{SeenPort}
use Rattle.m2_record.specs.Calls.{Owns}
use Rattle.m2_record.specs.RecordNow.{RecordNow}
use Rattle.m2_shared.specs.Numbers.{SeenNumberPass}
use Rattle.m2_shared.specs.Gates.{Places}
use Rattle.m2_shared.specs.declared.throttles.TakePasses.{TakePasses}
use Rattle.m2_trail.specs.Arrivals.{LooseNow}
use Rattle.m2_center.specs.Center.{CenterNow}
use Rattle.m2_turn.specs.Halves.{after_leaving}
use Rattle.m2_turn.specs.Outbox.{OutboxNow, OwnsAll}

pub record RestNow (D : Type 0) : Type 0 where
  pub port : SeenPort
  pub records : List RecordNow
  pub loose : List LooseNow
  pub out : OutboxNow D
  pub queued : Queued D
  pub bytes : TakePasses
  pub numbers : SeenNumberPass

-- its halves are left as they are, behind those that were over
abbrev pub rest_of : {D : Type 0} → CenterNow D → RestNow D
rest_of c = record {
  port = c.port;
  records = c.records;
  loose = (after_leaving c.halves).loose;
  out = c.out;
  queued = c.queued;
  bytes = c.bytes;
  numbers = c.numbers;
}

abbrev pub AllOwn : Places → List RecordNow → Type 0
AllOwn places records = AllByRecursion (Owns places) records

-- all that it holds was granted by the throttles whose words lie there
pub record IsGranted {D : Type 0} (places : Places) (r : RestNow D) : Type 0 where
  pub records : AllOwn places r.records
  pub out : OwnsAll places r.out
  pub queued : AreOwned places r.queued.waiting
