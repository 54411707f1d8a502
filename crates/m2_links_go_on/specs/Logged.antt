-- What a node's two dispatchers were called with, beside what the records of a center handed on: each parcel went to the one at
-- once, or is held for it, or was put into the queue before the other, or is in the mail; each once and in order. This project's own.
use Rattle.std.specs.Prelude.{◌≡◌, ◌==◌, ℕ, List, [], ◌∷◌, ◌++◌, map, take, Option, Some, None}
use Rattle.std.specs.List.{AllByRecursion, IsDistinct}
use Rattle.m2_dispatch.specs.Heard.{Heard}
use Rattle.m2_dispatch.specs.declared.letter.Letter.{Letter}
use Rattle.m2_dispatch.specs.declared.parcel.Parcel.{Parcel}
use Rattle.m2_dispatch.specs.Dispatch.{Queued}
use Rattle.m2_dispatch.specs.Laws.{Call, Put, history_of, start}
use Rattle.m2_dispatch.specs.Letters.{heard_in}
use Rattle.m2_weave.specs.m2_journal.Replay.{replay}
use Rattle.m2_weave.specs.m2_journal.State.{Delivery}
use Rattle.m2_history.specs.m2_record.RecordNow.{RecordNow, delivery_of, speaks_of}
use Rattle.m2_history.specs.m2_channel.Handing.{calls_of, heard_at_once, heard_by_calls, parcels_of, queued_of}
use Rattle.m2_history.specs.m2_channel.Observed.{Logs}
use Rattle.m2_cluster.specs.m2_center.m2_turn.Outbox.{OutboxNow}

-- ---- what a record handed on

-- all that its journal delivers, in order
abbrev pub deliveries_of : RecordNow → List Delivery
deliveries_of r = (replay r.core.facts (speaks_of r) r.journal).deliveries

-- the first ones, which were handed on
abbrev pub handed_of : RecordNow → List Delivery
handed_of r = take r.handed (deliveries_of r)

-- ---- where it went

-- what the dispatcher of fast keys will be called with for the letter that is held
abbrev pub heard_held : Option Letter → List Heard
heard_held (Some l) = heard_in l ∷ []
heard_held None = []

-- what it was called with, and then that
abbrev pub fast_calls : {D : Type 0} → (heard : D → List Heard) → OutboxNow D → List Heard
fast_calls heard o = heard o.fast ++ heard_held o.held

-- the parcels are put, in order
abbrev pub all_put : List Parcel → List Call
all_put parcels = map Put parcels

-- The calls of a record's peer at the dispatcher of fast keys are what the record handed on for it at once; and the parcels of the
-- peer that were put by these calls, and then those in the mail, are all else that it handed on.
pub record IsLoggedOf {D : Type 0} (heard : D → List Heard) (calls : List Call) (o : OutboxNow D) (r : RecordNow) : Type 0 where
  pub fast : calls_of r.place (fast_calls heard o) ≡ heard_at_once r.place (handed_of r)
  pub queued : map delivery_of (parcels_of r.place (calls ++ all_put o.mail)) ≡ queued_of (handed_of r)

-- ---- all of it

-- a center's records, where their parcels go, and the queue of the node
pub record LoggingNow (D : Type 0) : Type 0 where
  pub records : List RecordNow
  pub out : OutboxNow D
  pub queued : Queued D

abbrev pub logging : {D : Type 0} → List RecordNow → OutboxNow D → Queued D → LoggingNow D
logging records out queued = record { records = records; out = out; queued = queued }

-- no two records are of one peer
abbrev pub AreOfTheirPeers : List RecordNow → Type 0
AreOfTheirPeers records = IsDistinct (λ (a b : ℕ). a == b) (map (λ (r : RecordNow). r.place) records)

-- By these calls of a new queue its dispatcher was called with just what it was, and the letters that wait are left, whichever peer
-- is looked at.
pub record IsCalled {D : Type 0} (heard : D → List Heard) (calls : List Call) (q : Queued D) : Type 0 where
  pub waiting : (peer : ℕ) → q.waiting ≡ (history_of peer calls).waiting
  pub heard_so : (peer : ℕ) → heard q.inner ≡ heard_by_calls peer start calls

pub record IsLogged {D : Type 0} (heard : D → List Heard) (l : LoggingNow D) : Type 0 where
  pub peers : AreOfTheirPeers l.records
  pub calls : List Call
  pub queue : IsCalled heard calls l.queued
  pub each : AllByRecursion (IsLoggedOf heard calls l.out) l.records

-- what both dispatchers were called with
abbrev pub logs_in : {D : Type 0} → (heard : D → List Heard) → LoggingNow D → Logs
logs_in heard l = record { fast = heard l.out.fast; queued = heard l.queued.inner }
