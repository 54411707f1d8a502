-- What is promised of the stages of a turn: what the dispatchers were called with is what the records handed on.
use Rattle.std.specs.Prelude.{◌≡◌, ℕ, List, [], None}
use Rattle.std.specs.List.{AllByRecursion}
use Rattle.m2_history.specs.m2_channel.Handing.{IsHeardOf}
use Rattle.m2_history.specs.m2_channel.Observed.{all_of}
use Rattle.m2_dispatch.specs.Heard.{Heard}
use Rattle.m2_dispatch.specs.Dispatch.{Queued}
use Rattle.m2_fabric.specs.Port.{SeenPort}
use Rattle.m2_weave.specs.m2_journal.declared.facts.PlanStep.{PlanStep}
use Rattle.m2_weave.specs.m2_journal.State.{State}
use Rattle.m2_history.specs.m2_record.IsRecord.{IsRecord, IsReplayedTo}
use Rattle.m2_history.specs.m2_record.RecordNow.{RecordNow}
use Rattle.m2_dispatch.specs.m2_shared.declared.throttles.Throttles.{Throttles}
use Rattle.m2_dispatch.specs.m2_shared.Gates.{Places}
use Rattle.m2_cluster.specs.m2_center.m2_turn.declared.halves_turn.HalvesTurn.{HalvesTurn}
use Rattle.m2_cluster.specs.m2_center.m2_turn.declared.mailing.Mailed.{Mailed}
use Rattle.m2_cluster.specs.m2_center.m2_turn.declared.records_turn.RecordsTurn.{RecordsTurn}
use Rattle.m2_cluster.specs.m2_center.m2_turn.Halves.{AllHalves}
use Rattle.m2_cluster.specs.m2_center.m2_turn.HalvesTurn.{Callers, TurnsHalves}
use Rattle.m2_cluster.specs.m2_center.m2_turn.Mailing.{Mailing, Mails}
use Rattle.m2_cluster.specs.m2_center.m2_turn.Outbox.{OutboxNow}
use Rattle.m2_cluster.specs.m2_center.m2_turn.RecordTurn.{Means}
use Rattle.m2_cluster.specs.m2_center.m2_turn.RecordsTurn.{AllAmid, TurnsEach}
use Rattle.m2_cluster.specs.m2_center.Center.{CenterNow}
use Rattle.m2_cluster.specs.m2_center.CenterTurn.{Answer, TakesTurn}
use Rattle.m2_cluster.specs.m2_center.Plans.{PlansIn}
use Rattle.m2_cluster.specs.m2_center.Reaching.{rest_in}
use Rattle.m2_growth.specs.Holding.{AreOwn}
use Rattle.m2_growth.specs.GrowthLaws.{at_halves, at_records}
pub use Rattle.m2_links_go_on.specs.Course.{holding_in}
use Rattle.m2_links_go_on.specs.Logged.{AreOfTheirPeers, IsLogged, LoggingNow, logging, logs_in}

-- ---- at first

-- nothing was handed on, the dispatchers weren't called, and nothing is on its way to them
abbrev pub BeginLogged : Type 0 → Type 0
BeginLogged D = (heard : D → List Heard) (records : List RecordNow) (fast queued : D) → AreOfTheirPeers records → AllByRecursion (λ (r : RecordNow). r.handed ≡ 0) records →
    heard fast ≡ [] → heard queued ≡ [] →
    IsLogged heard (logging records (record { fast = fast; mail = []; held = None }) (record { waiting = []; inner = queued }))

-- ---- the stages of a turn

-- halves: records that judge hand nothing on
abbrev pub HalvesStayLogged : Type 0 → Type 0 → Type 0
HalvesStayLogged D E = (heard : D → List Heard) (result : HalvesTurn) (m : Means) (port : SeenPort) (out : OutboxNow D) (queued : Queued D) (old new : Callers) → TurnsHalves E result m old new →
    AreOwn (at_halves port old) → AllByRecursion IsRecord old.homes.records → AllByRecursion IsRecord new.homes.records →
    IsLogged heard (logging old.homes.records out queued) → IsLogged heard (logging new.homes.records out queued)

-- records: what they hand on is dispatched, or held, or goes to the mail
abbrev pub RecordsStayLogged : Type 0 → Type 0
RecordsStayLogged D = (heard : D → List Heard) (m : Means) (result : RecordsTurn) (halves : AllHalves) (queued : Queued D) (old new : AllAmid D) → TurnsEach heard m result old new →
    AreOwn (at_records halves old) → AllByRecursion IsRecord old.records → AllByRecursion IsRecord new.records →
    IsLogged heard (logging old.records old.around.out queued) → IsLogged heard (logging new.records new.around.out queued)

-- the mail is emptied into the queue, and that dispatches
abbrev pub MailStaysLogged : Type 0 → Type 0
MailStaysLogged D = (heard : D → List Heard) (place : Places) (answer : Mailed) (records : List RecordNow) (old new : Mailing D) → Mails heard place answer old new →
    IsLogged heard (logging records old.out old.queue.queued) → IsLogged heard (logging records new.out new.queue.queued)

-- ---- all of a turn

abbrev pub logging_in : {D : Type 0} → CenterNow D → LoggingNow D
logging_in c = logging c.records c.out c.queued

-- of a center, whose records are records before it and behind it
abbrev pub TurnsStayLogged : Type 0 → Type 0 → Type 0
TurnsStayLogged D E = (heard : D → List Heard) (m : Means) (answer : Answer) (old new : CenterNow D) → TakesTurn E heard m answer old new →
    AreOwn (holding_in old) → AllByRecursion IsRecord old.records → AllByRecursion IsRecord new.records →
    IsLogged heard (logging_in old) → IsLogged heard (logging_in new)

-- ---- what ends are told

-- and where ends are told of the other side, or a socket comes to the port, which changes nothing of the rest
abbrev pub RestStaysLogged : Type 0 → Type 0
RestStaysLogged D = (heard : D → List Heard) (old new : CenterNow D) → rest_in new ≡ rest_in old → IsLogged heard (logging_in old) → IsLogged heard (logging_in new)

-- ---- a plan

-- and where a step is planned and taken
abbrev pub PlansStayLogged : Type 0 → Type 0
PlansStayLogged D = (heard : D → List Heard) (result : Answer) (peer : ℕ) (x : PlanStep) (now : ℕ) (throttles : Throttles) (old new : CenterNow D) → PlansIn result peer x now throttles old new →
    AreOwn (holding_in old) → AllByRecursion IsRecord old.records → AllByRecursion IsRecord new.records →
    IsLogged heard (logging_in old) → IsLogged heard (logging_in new)

-- ---- what is heard

-- so of each record, what its peer was heard to send by both dispatchers is what the record accepted, of each key in order
abbrev pub LoggedAreHeard : Type 0 → Type 0
LoggedAreHeard D = (heard : D → List Heard) (records : List RecordNow) (out : OutboxNow D) (queued : Queued D) → IsLogged heard (logging records out queued) →
    AllByRecursion (λ (r : RecordNow). (s : State) → IsReplayedTo s r → IsHeardOf r.place (all_of (logs_in heard (logging records out queued))) s) records
