-- What is promised of ends in memory where nodes take their turns, and of what is passed between them.
use Rattle.std.specs.Prelude.{◌≡◌, ℕ, true, List}
use Rattle.m2_dispatch.specs.Heard.{Heard}
use Rattle.m2_fabric.specs.declared.socket.SocketId.{SocketId}
use Rattle.m2_fabric.specs.Holder.{SeenHolder}
use Rattle.m2_turn.specs.m2_record.RecordNow.{RecordNow}
use Rattle.m2_turn.specs.m2_record.Sources.{end_at}
use Rattle.m2_turn.specs.declared.accepting.Accepted.{Accepted}
use Rattle.m2_turn.specs.declared.records_turn.RecordsTurn.{RecordsTurn}
use Rattle.m2_turn.specs.Accepting.{Accepting, AcceptsAll}
use Rattle.m2_turn.specs.Halves.{AllHalves}
use Rattle.m2_turn.specs.RecordTurn.{Means}
use Rattle.m2_turn.specs.RecordsTurn.{AllAmid, TurnsEach}
use Rattle.m2_growth.specs.Holding.{AreOwn, Grows, Holding, all_ends}
use Rattle.m2_growth.specs.GrowthLaws.{at_accepts, at_records}
use Rattle.m2_fabric.specs.InStep.{IsInStep, Network, SeenFabric}
use Rattle.m2_fabric.specs.SimFabric.{Enters, Faults, Flows, IsPassedOn, Meets}
use Rattle.m2_growth.specs.Turn.{AllCameOfPut, AllEndsGrow, HaveEnds}
use Rattle.m2_growth.specs.Passed.{AllPortsStand, HasItsEnds, WaitingAreOpen}
use Rattle.m2_growth.specs.Ports.{PortStands, waits_there}

-- ---- turns

-- Where ends grow they stay in step with what flowed between them.
abbrev pub TurnsStayInStep : Type 0
TurnsStayInStep = (fabric : SeenFabric) (old new : SeenHolder) → AllEndsGrow old new → HaveEnds old fabric →
    IsInStep (record { fabric = fabric; holder = old }) → IsInStep (record { fabric = fabric; holder = new })

-- what a turn keeps of the ends of kept sockets: they are there, and all that came to them had been put
pub record StayMet (fabric : SeenFabric) (new : SeenHolder) : Type 0 where
  pub ends : HaveEnds new fabric
  pub came : AllCameOfPut new fabric

abbrev pub TurnsStayMet : Type 0
TurnsStayMet = (fabric : SeenFabric) (old new : SeenHolder) → AllEndsGrow old new → StayMet fabric old → StayMet fabric new

abbrev pub TurnsKeepEnds : Type 0
TurnsKeepEnds = (fabric : SeenFabric) (old new : SeenHolder) → AllEndsGrow old new → AllPortsStand old new →
    HasItsEnds (record { fabric = fabric; holder = old }) → HasItsEnds (record { fabric = fabric; holder = new })

-- ---- what is passed between ends

abbrev pub AreMet : Network → Type 0
AreMet n = StayMet n.fabric n.holder

-- Where something is passed on they stay met: to an open end came what flowed, and a closed one is told nothing.
abbrev pub PassingStaysMet : Type 0
PassingStaysMet = (what : _) (old new : Network) → IsPassedOn what old new → IsInStep new → WaitingAreOpen old.holder → AreMet old → AreMet new

-- By a fault no bytes come.
abbrev pub FaultsStayMet : Type 0
FaultsStayMet = (a b socket : ℕ) (old new : Network) → Faults a b socket old new → AreMet old → AreMet new

-- Of a socket that comes to be kept both ends are there, and nothing came to them.
abbrev pub EnteringStaysMet : Type 0
EnteringStaysMet = (node : ℕ) (old new : Network) → Enters node old new → IsInStep old → HasItsEnds old → AreMet old → AreMet new

abbrev pub MeetingsStayMet : Type 0
MeetingsStayMet = (node : ℕ) (old new : Network) → Meets node old new → IsInStep old → IsInStep new → HasItsEnds old → AreMet old → AreMet new

abbrev pub FlowsStayMet : Type 0
FlowsStayMet = (a b socket most : ℕ) (old new : Network) → Flows a b socket most old new → IsInStep new → WaitingAreOpen old.holder → AreMet old → AreMet new

-- ---- and ends stay there

-- what does so to networks leaves them their ends
abbrev pub Keeps : (Network → Network → Type 0) → Type 0
Keeps how = (old new : Network) → how old new → HasItsEnds old → HasItsEnds new

pub record CallsKeepEnds : Type 0 where
  pub passing : (what : _) → Keeps (IsPassedOn what)
  pub entering : (node : ℕ) → Keeps (Enters node)
  pub meetings : (node : ℕ) → Keeps (Meets node)
  pub flows : (a b socket most : ℕ) → Keeps (Flows a b socket most)
  pub faults : (a b socket : ℕ) → Keeps (Faults a b socket)

-- ---- the port of one node in its turn

abbrev pub AcceptsStand : Type 0
AcceptsStand = (entity : ℕ) (result : Accepted) (records : List RecordNow) (old new : Accepting) → AcceptsAll entity result old new → AreOwn (at_accepts records old) →
    PortStands (at_accepts records old) (at_accepts records new)

abbrev pub RecordTurnsStand : Type 0 → Type 0
RecordTurnsStand D = (heard : D → List Heard) (m : Means) (result : RecordsTurn) (halves : AllHalves) (old new : AllAmid D) → TurnsEach heard m result old new →
    AreOwn (at_records halves old) → PortStands (at_records halves old) (at_records halves new)

-- What leaves the port as it was, as turns of halves and plans do, leaves it so; so do two parts one after the other; and each end
-- that waits then waited before, and is the end of its socket as it was.
pub record StandingGoesOn : Type 0 where
  pub same : (old new : Holding) → new.port ≡ old.port → PortStands old new
  pub goes_on : (a b c : Holding) → PortStands a b → PortStands b c → Grows b c → PortStands a c
  pub waits : (old new : Holding) → AreOwn old → PortStands old new → (k : SocketId) → waits_there new k ≡ true →
      (waits_there old k ≡ true) × (end_at (all_ends new) k ≡ end_at (all_ends old) k)
