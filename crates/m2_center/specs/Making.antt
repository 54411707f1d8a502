-- How a center begins. This project's own.
use Rattle.std.specs.Prelude.{ℕ, List, [], None}
use Rattle.m2_fabric.specs.Port.{SeenPort}
use Rattle.m2_record.specs.RecordNow.{RecordNow}
use Rattle.m2_shared.specs.Numbers.{SeenNumberPass}
use Rattle.m2_shared.specs.Gates.{pass_places}
use Rattle.m2_shared.specs.declared.throttles.TakePasses.{TakePasses}
use Rattle.m2_center.specs.Center.{CenterNow}
use Rattle.m2_turn.specs.Sessions.{AreConsistent, Sessions}

-- what a center is made of
pub record UnmadeNow (D : Type 0) : Type 0 where
  pub entity : ℕ
  pub port : SeenPort
  pub records : List RecordNow
  pub fast : D
  pub queued : D
  pub bytes : TakePasses
  pub numbers : SeenNumberPass

abbrev pub unmade_now : {D : Type 0} → (entity : ℕ) → SeenPort → List RecordNow → (fast queued : D) → TakePasses → SeenNumberPass → UnmadeNow D
unmade_now entity port records fast queued bytes numbers =
    record { entity = entity; port = port; records = records; fast = fast; queued = queued; bytes = bytes; numbers = numbers }

-- no half was accepted
abbrev pub sessions_at_first : SeenPort → List RecordNow → Sessions
sessions_at_first port records = record { made = port.made; records = records; halves = []; loose = [] }

-- its records are of this kind of node, towards peers that differ, and consistent beside no halves
abbrev pub CanBegin : (entity : ℕ) → SeenPort → List RecordNow → TakePasses → SeenNumberPass → Type 0
CanBegin entity port records bytes numbers = AreConsistent (record { places = pass_places bytes; least = numbers.least }) entity (sessions_at_first port records)

-- nothing accepted, nothing on its way to the dispatchers
abbrev pub new_center : {D : Type 0} → (entity : ℕ) → SeenPort → List RecordNow → (fast queued : D) → TakePasses → SeenNumberPass → CenterNow D
new_center entity port records fast queued bytes numbers = record {
  entity = entity;
  port = port;
  halves = record { pending = []; loose = [] };
  records = records;
  out = record { fast = fast; mail = []; held = None };
  queued = record { waiting = []; inner = queued };
  bytes = bytes;
  numbers = numbers;
}
