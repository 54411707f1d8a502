-- The turn of a center's records, one after another: each makes the connect that is due, and then takes its steps; and a record
-- that is idle. The order is that of a center's turn; the rest is this project's own.
use Rattle.std.specs.Prelude.{◌≡◌, ℕ, ◌&&◌, ◌⊎◌, Bool, true, false, List, [], ◌∷◌, ◌++◌, map, Option, Some, None, Ok, Err}
use Rattle.m2_dispatch.specs.Heard.{Heard}
use Rattle.m2_fabric.specs.Port.{SeenPort}
use Rattle.m2_feed.specs.FeedNow.{FeedNow}
use Rattle.m2_record.specs.declared.due.Due.{Due}
use Rattle.m2_record.specs.declared.due.Due.TheVariants as due
use Rattle.m2_record.specs.declared.work.Work.{Work}
use Rattle.m2_record.specs.Due.{due_step, on_feed}
use Rattle.m2_record.specs.RecordNow.{RecordNow}
use Rattle.m2_shared.specs.Numbers.{SeenNumberPass}
use Rattle.m2_shared.specs.Gates.{Return}
use Rattle.m2_shared.specs.declared.throttles.TakePasses.{TakePasses}
use Rattle.m2_turn.specs.declared.record_turn.RecordTurn.{RecordTurn}
use Rattle.m2_turn.specs.declared.record_turn.RecordTurn.TheVariants as one
use Rattle.m2_turn.specs.declared.records_turn.RecordsTurn.{RecordsTurn}
use Rattle.m2_turn.specs.declared.records_turn.RecordsTurn.TheVariants as turn
use Rattle.m2_turn.specs.Connecting.{AtPort, DialsIfDue}
use Rattle.m2_turn.specs.Outbox.{OutboxNow, Retries, is_free, returned_again}
use Rattle.m2_turn.specs.RecordTurn.{Means, Turning, TurnsAs}

-- ---- records, and what stands around them

-- the port, where parcels go, and the passes of the thread
pub record Around (D : Type 0) : Type 0 where
  pub port : SeenPort
  pub out : OutboxNow D
  pub bytes : TakePasses
  pub numbers : SeenNumberPass

abbrev pub around : {D : Type 0} → SeenPort → OutboxNow D → Work → Around D
around port out w = record { port = port; out = out; bytes = w.passes.now; numbers = w.number_pass.now }

-- a record amid it
pub record Amid (D : Type 0) : Type 0 where
  pub side : RecordNow
  pub around : Around D

abbrev pub amid : {D : Type 0} → RecordNow → Around D → Amid D
amid r a = record { side = r; around = a }

-- all records amid it
pub record AllAmid (D : Type 0) : Type 0 where
  pub records : List RecordNow
  pub around : Around D

abbrev pub all_amid : {D : Type 0} → List RecordNow → Around D → AllAmid D
all_amid rs a = record { records = rs; around = a }

abbrev pub at_port : {D : Type 0} → Amid D → AtPort
at_port a = record { side = a.side; port = a.around.port }

abbrev pub turning_amid : {D : Type 0} → RecordNow → Around D → Turning D
turning_amid r a = record { side = r; out = a.out; bytes = a.bytes; numbers = a.numbers }

-- ---- one record

-- what its turn comes to: of all that may end one, want of memory alone ends the turn of all
abbrev pub come_to : RecordTurn → RecordsTurn
come_to one.NoMemory = turn.NoMemory
come_to _ = turn.Done

-- its connect is made or missed, where one is due, and then it takes its steps
pub record DialsAndSteps {D : Type 0} (heard : D → List Heard) (m : Means) (result : RecordsTurn) (old new : Amid D) : Type 0 where
  pub mid : AtPort
  pub dials : DialsIfDue (Ok tt) m.now (at_port old) mid
  pub ended : RecordTurn
  pub turns : TurnsAs heard m ended (turning_amid mid.side old.around) (turning_amid new.side new.around)
  pub port : new.around.port ≡ mid.port
  pub comes : result ≡ come_to ended

-- memory ran out at its connect, and no step was taken
pub record DialsNot {D : Type 0} (m : Means) (old new : Amid D) : Type 0 where
  pub dials : DialsIfDue (Err (record {})) m.now (at_port old) (at_port new)
  pub only : new.around ≡ record old.around { port = new.around.port }

-- by whether a parcel may be put: while none may, the record does nothing
abbrev pub TurnsIf : {D : Type 0} → (free : Bool) → (heard : D → List Heard) → Means → RecordsTurn → Amid D → Amid D → Type 0
TurnsIf true heard m turn.Done old new = DialsAndSteps heard m turn.Done old new
TurnsIf true heard m turn.NoMemory old new = DialsNot m old new ⊎ DialsAndSteps heard m turn.NoMemory old new
TurnsIf false heard m turn.Done old new = new ≡ old
TurnsIf false heard m turn.NoMemory old new = ⊥

abbrev pub TurnsOne : {D : Type 0} → (heard : D → List Heard) → Means → RecordsTurn → Amid D → Amid D → Type 0
TurnsOne heard m result old new = TurnsIf (is_free old.around.out) heard m result old new

-- ---- all of them, in order

-- each takes its turn; the list has each as it was behind its own, with what stood around it then
abbrev pub EachTurns : {D : Type 0} → (heard : D → List Heard) → Means → List RecordNow → List (Amid D) → Around D → Around D → Type 0
EachTurns heard m [] [] old new = new ≡ old
EachTurns heard m (r ∷ rs) (a ∷ more) old new = TurnsOne heard m turn.Done (amid r old) a × EachTurns heard m rs more a.around new
EachTurns heard m _ _ old new = ⊥

abbrev pub sides_of : {D : Type 0} → List (Amid D) → List RecordNow
sides_of stood = map (λ a. a.side) stood

pub record AllTurn {D : Type 0} (heard : D → List Heard) (m : Means) (old new : AllAmid D) : Type 0 where
  pub stood : List (Amid D)
  pub turns : EachTurns heard m old.records stood old.around new.around
  pub records : new.records ≡ sides_of stood

-- those before one have taken their turns, in its own memory ran out, and those behind it are as they were
pub record StopsAtOne {D : Type 0} (heard : D → List Heard) (m : Means) (old new : AllAmid D) : Type 0 where
  pub before : List RecordNow
  pub at : RecordNow
  pub rest : List RecordNow
  pub split : old.records ≡ before ++ at ∷ rest
  pub stood : List (Amid D)
  pub mid : Around D
  pub turns : EachTurns heard m before stood old.around mid
  pub left : RecordNow
  pub stops : TurnsOne heard m turn.NoMemory (amid at mid) (amid left new.around)
  pub records : new.records ≡ sides_of stood ++ left ∷ rest

abbrev pub TurnsInOrder : {D : Type 0} → (heard : D → List Heard) → Means → RecordsTurn → AllAmid D → AllAmid D → Type 0
TurnsInOrder heard m turn.Done old new = AllTurn heard m old new
TurnsInOrder heard m turn.NoMemory old new = StopsAtOne heard m old new

-- the letter that is held is tried again, and then the records take their turns
pub record TurnsEach {D : Type 0} (heard : D → List Heard) (m : Means) (result : RecordsTurn) (old new : AllAmid D) : Type 0 where
  pub retried : Around D
  pub retries : Retries heard old.around.out retried.out
  pub gives : Return (returned_again old.around.out.held retried.out.held) m.throttles old.around.bytes retried.bytes
  pub only : retried ≡ record old.around { out = retried.out; bytes = retried.bytes }
  pub turns : TurnsInOrder heard m result (all_amid old.records retried) new

-- ---- a record that is idle

-- what its feed's end has last found: nothing to be read, and that nothing can be written
abbrev pub is_dry : Option FeedNow → Bool
is_dry feed = on_feed (λ v. v.end.log.dry) feed

abbrev pub is_blocked : Option FeedNow → Bool
is_blocked feed = on_feed (λ v. v.end.log.blocked) feed

-- there is no feed, or the last read of its end found nothing
abbrev pub none_or_dry : Option FeedNow → Bool
none_or_dry (Some v) = is_dry (Some v)
none_or_dry None = true

-- by the step that is due
abbrev pub is_idle_at : Due → Option FeedNow → Bool
is_idle_at due.Nothing feed = none_or_dry feed
is_idle_at due.Read feed = is_dry feed
is_idle_at due.Write feed = is_blocked feed && is_dry feed
is_idle_at _ feed = false

-- nothing is due, or only what an end that is dry or blocked would refuse; and an open feed is dry
abbrev pub is_idle : (now : ℕ) → RecordNow → Bool
is_idle now r = is_idle_at (due_step now r) r.core.live.feed
