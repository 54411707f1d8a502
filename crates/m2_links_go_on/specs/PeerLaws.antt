-- What is promised of whom the calls of a node's dispatchers are of: of peers of its center's records, over ports and ends of any
-- kind, whether memory ran out or not.
use Rattle.std.specs.Prelude.{◌≡◌, ℕ, List, [], None}
use Rattle.m2_dispatch.specs.Heard.{Heard}
use Rattle.m2_dispatch.specs.m2_shared.declared.throttles.Throttles.{Throttles}
use Rattle.m2_weave.specs.m2_journal.declared.facts.PlanStep.{PlanStep}
use Rattle.m2_history.specs.m2_record.RecordNow.{RecordNow}
use Rattle.m2_cluster.specs.m2_center.m2_turn.RecordTurn.{Means}
use Rattle.m2_cluster.specs.m2_center.Center.{CenterNow}
use Rattle.m2_cluster.specs.m2_center.CenterTurn.{Answer, TakesTurn}
use Rattle.m2_cluster.specs.m2_center.Plans.{PlansIn}
use Rattle.m2_cluster.specs.m2_center.Reaching.{rest_in}
use Rattle.m2_links_go_on.specs.OfPeers.{AreOfPeers}

-- of a center
abbrev pub AreOfItsPeers : {D : Type 0} → (D → List Heard) → CenterNow D → Type 0
AreOfItsPeers heard c = AreOfPeers heard c.records c.out c.queued

-- at first, where the dispatchers weren't called and nothing is on its way to them, whatever the records
abbrev pub BeginOfPeers : Type 0 → Type 0
BeginOfPeers D = (heard : D → List Heard) (records : List RecordNow) (fast queued : D) → heard fast ≡ [] → heard queued ≡ [] →
    AreOfPeers heard records (record { fast = fast; mail = []; held = None }) (record { waiting = []; inner = queued })

-- behind a turn, where it was so before it
abbrev pub TurnsStayOfPeers : Type 0 → Type 0 → Type 0
TurnsStayOfPeers D E = (heard : D → List Heard) (m : Means) (answer : Answer) (old new : CenterNow D) → TakesTurn E heard m answer old new →
    AreOfItsPeers heard old → AreOfItsPeers heard new

-- where ends are told of the other side, or a socket comes to the port, which changes nothing of the rest
abbrev pub RestStaysOfPeers : Type 0 → Type 0
RestStaysOfPeers D = (heard : D → List Heard) (old new : CenterNow D) → rest_in new ≡ rest_in old → AreOfItsPeers heard old → AreOfItsPeers heard new

-- where a step is planned and taken
abbrev pub PlansStayOfPeers : Type 0 → Type 0
PlansStayOfPeers D = (heard : D → List Heard) (result : Answer) (peer : ℕ) (x : PlanStep) (now : ℕ) (throttles : Throttles) (old new : CenterNow D) →
    PlansIn result peer x now throttles old new → AreOfItsPeers heard old → AreOfItsPeers heard new
