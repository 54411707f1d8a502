-- What is promised of an event thread on its course.
use Rattle.std.specs.Prelude.{◌≡◌, ℕ, ◌≤◌, List, [], Ok, unwrap_or}
use Rattle.std.specs.List.{AllByRecursion, IsDistinct}
use Rattle.m2_cluster.specs.m2_center.Center.{CenterNow}
use Rattle.m2_cluster.specs.m2_center.CenterTurn.{Answer, TakesTurn}
use Rattle.m2_cluster.specs.m2_center.Finishing.{rest_of}
use Rattle.m2_cluster.specs.m2_center.Making.{CanBegin, new_center}
use Rattle.m2_cluster.specs.m2_center.m2_feed.m2_journal.declared.facts.PlanStep.{PlanStep}
use Rattle.m2_cluster.specs.m2_center.m2_feed.m2_journal.SideFacts.{SideFacts}
use Rattle.m2_cluster.specs.m2_center.m2_record.Calls.{AddsStep, IsSameButRoom}
use Rattle.m2_cluster.specs.m2_center.m2_record.IsRecord.{IsRecord, new_record}
use Rattle.m2_cluster.specs.m2_center.m2_record.RecordNow.{RecordNow, Rooms}
use Rattle.m2_cluster.specs.m2_center.m2_turn.RecordTurn.{Means}
use Rattle.m2_dispatch.specs.Heard.{Heard}
use Rattle.m2_dispatch.specs.m2_shared.Numbers.{SeenNumberPass}
use Rattle.m2_dispatch.specs.m2_shared.declared.peer_type.PeerType.{PeerType}
use Rattle.m2_dispatch.specs.m2_shared.declared.throttles.TakePasses.{TakePasses}
use Rattle.m2_fabric.specs.Port.{SeenPort, with_poll}
use Rattle.m2_fabric.specs.Sockets.{same_socket}
use Rattle.m2_growth.specs.Holding.{AreOwn, LeadsElsewhere}
use Rattle.m2_links_go_on.specs.Course.{DialsInTime, HasCounted, IsOnCourse, LastIsGiven, MadeAreHeld, holding_in, missed_by}
use Rattle.m2_links_go_on.specs.CourseEnded.{HasRunItsCourse}
use Rattle.m2_links_go_on.specs.Made.{IsBegun, NodeMade, node_made}

-- ---- a turn, row by row

-- A turn plans nothing: each record has its peer, its facts and its plan still.
abbrev pub MadeStays : (D E : Type 0) → Type 0
MadeStays D E = (heard : D → List Heard) (m : Means) (answer : Answer) (old new : CenterNow D) → TakesTurn E heard m answer old new →
    node_made new ≡ node_made old

-- No socket that was made is lost: the end that is accepted is a half's, the one that is dialled the record's.
abbrev pub SocketsStayHeld : (D E : Type 0) → Type 0
SocketsStayHeld D E = (heard : D → List Heard) (m : Means) (answer : Answer) (old new : CenterNow D) → TakesTurn E heard m answer old new →
    AreOwn (holding_in old) → MadeAreHeld (holding_in old) → MadeAreHeld (holding_in new)

-- And none was made before.
abbrev pub SocketsStayApart : (D E : Type 0) → Type 0
SocketsStayApart D E = (heard : D → List Heard) (m : Means) (answer : Answer) (old new : CenterNow D) → TakesTurn E heard m answer old new →
    IsDistinct same_socket old.port.made → IsDistinct same_socket new.port.made

-- Of each connect that a record missed the port has counted one.
abbrev pub MissedStayCounted : (D E : Type 0) → Type 0
MissedStayCounted D E = (heard : D → List Heard) (m : Means) (answer : Answer) (old new : CenterNow D) → TakesTurn E heard m answer old new →
    HasCounted old.port.missed (missed_by old.records) → HasCounted new.port.missed (missed_by new.records)

-- A productive entry is of the turn's moment.
abbrev pub LastsStayGiven : (D E C : Type 0) → (may_give : C → ℕ → Type 0) → Type 0
LastsStayGiven D E C may_give = (heard : D → List Heard) (m : Means) (answer : Answer) (old new : CenterNow D) → TakesTurn E heard m answer old new →
    (clock : C) → may_give clock m.now → AllByRecursion (LastIsGiven (may_give clock)) old.records → AllByRecursion (LastIsGiven (may_give clock)) new.records

-- A wait begins at the turn's moment, and no wait is longer than the longest.
abbrev pub DialsStayInTime : (D E : Type 0) → Type 0
DialsStayInTime D E = (heard : D → List Heard) (m : Means) (answer : Answer) (old new : CenterNow D) → TakesTurn E heard m answer old new →
    (moment : ℕ) → moment ≤ m.now → AllByRecursion IsRecord old.records → AllByRecursion (DialsInTime moment) old.records → AllByRecursion (DialsInTime m.now) new.records

-- ---- all of a turn

-- at a moment that the clock may give, and that isn't before the last one
abbrev pub TurnsStayOnCourse : (D E C : Type 0) → (may_give : C → ℕ → Type 0) → Type 0
TurnsStayOnCourse D E C may_give = (heard : D → List Heard) (m : Means) (answer : Answer) (old new : CenterNow D) → TakesTurn E heard m answer old new →
    (clock : C) (moment : ℕ) (node : NodeMade) → may_give clock m.now → moment ≤ m.now → AllByRecursion IsRecord old.records →
    IsOnCourse (may_give clock) moment node old → IsOnCourse (may_give clock) m.now node new

-- ---- between turns

-- where the thread waits at its port
abbrev pub PollsStayOnCourse : (D C : Type 0) → (may_give : C → ℕ → Type 0) → Type 0
PollsStayOnCourse D C may_give = (clock : C) (moment faults : ℕ) (node : NodeMade) (c : CenterNow D) → IsOnCourse (may_give clock) moment node c →
    IsOnCourse (may_give clock) moment node (record c { port = with_poll faults c.port })

-- and where time passes
abbrev pub WaitingStaysOnCourse : (D C : Type 0) → (may_give : C → ℕ → Type 0) → Type 0
WaitingStaysOnCourse D C may_give = (clock : C) (moment now : ℕ) (node : NodeMade) (c : CenterNow D) → may_give clock now → moment ≤ now →
    IsOnCourse (may_give clock) moment node c → IsOnCourse (may_give clock) now node c

-- ---- the beginning

-- a new record is begun, and stays so where a step is added to its plan, or room is made
pub record RecordsBegin : Type 0 where
  pub first : (f : SideFacts) (place : ℕ) (peer : PeerType) (room : Rooms) → IsBegun (record (new_record f place peer) { room = room })
  pub planned : (x : PlanStep) (old new : RecordNow) → AddsStep (Ok tt) x old new → IsBegun old → IsBegun new
  pub roomy : (old new : RecordNow) → IsSameButRoom old new → IsBegun old → IsBegun new

-- A new center of such records, which dial others than its port, where that has made nothing and nothing waits at it.
abbrev pub CentersBeginOnCourse : (D C : Type 0) → (may_give : C → ℕ → Type 0) → Type 0
CentersBeginOnCourse D C may_give = (clock : C) (moment entity : ℕ) (port : SeenPort) (records : List RecordNow) (fast queued : D) (bytes : TakePasses) (numbers : SeenNumberPass) →
    CanBegin entity port records bytes numbers → AllByRecursion IsBegun records → AllByRecursion (LeadsElsewhere port) records →
    port.made ≡ [] → unwrap_or port.waiting [] ≡ [] → may_give clock moment →
    let c : CenterNow D = new_center entity port records fast queued bytes numbers in IsOnCourse (may_give clock) moment (node_made c) c

-- ---- the end

-- what is left of a center
abbrev pub CentersRunTheirCourse : (D C : Type 0) → (may_give : C → ℕ → Type 0) → Type 0
CentersRunTheirCourse D C may_give = (clock : C) (moment : ℕ) (node : NodeMade) (c : CenterNow D) → IsOnCourse (may_give clock) moment node c →
    HasRunItsCourse (may_give clock) moment node (rest_of c)
