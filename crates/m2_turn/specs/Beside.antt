-- What a turn of records keeps of the sessions beside them: each half of a socket that was made is told just what it was, whatever
-- halves there are. This project's own.
use Rattle.std.specs.Prelude.{◌≡◌, ℕ, ◌≤◌, true, List, [], ◌∷◌, ◌++◌}
use Rattle.m2_handshake.specs.m2_control.declared.fields.TheConstants.{GREATEST_NUMBER}
use Rattle.m2_fabric.specs.declared.socket.SocketId.{SocketId}
use Rattle.m2_fabric.specs.Sockets.{is_among}
use Rattle.m2_record.specs.declared.work.Work.{Work}
use Rattle.m2_record.specs.RecordNow.{RecordNow}
use Rattle.m2_trail.specs.Arrivals.{LooseNow}
use Rattle.m2_turn.specs.Sessions.{AreConsistent, Caller, IsTold, PendingNow, Sessions, Supply, supply_of}

-- sockets were made behind those that were, or none
abbrev pub MadeOn : (old new : List SocketId) → Type 0
MadeOn old new = (more : List SocketId) × (new ≡ old ++ more)

-- What never changes of the record is the same, and it has told each half of a socket that was made before just what it had.
pub record KeepsCallers (made : List SocketId) (old new : RecordNow) : Type 0 where
  pub facts : new.core.facts ≡ old.core.facts
  pub told : (c : Caller) → is_among c.socket made ≡ true → IsTold c old → IsTold c new

-- the same of each of them
abbrev pub AllKeepCallers : (made : List SocketId) → (old new : List RecordNow) → Type 0
AllKeepCallers made [] [] = Unit {0}
AllKeepCallers made (r ∷ rs) (s ∷ ss) = KeepsCallers made r s × AllKeepCallers made rs ss
AllKeepCallers made rs ss = ⊥

-- no number that it has used is above the greatest
abbrev pub TopFits : RecordNow → Type 0
TopFits r = r.core.top ≤ GREATEST_NUMBER

-- ---- the sessions of a center

-- what of a center's sessions a turn of its records changes
pub record Served : Type 0 where
  pub supply : Supply
  pub made : List SocketId
  pub records : List RecordNow

abbrev pub served : Work → List SocketId → List RecordNow → Served
served w made records = record { supply = supply_of w; made = made; records = records }

abbrev pub sessions_of : Served → List PendingNow → List LooseNow → Sessions
sessions_of s halves loose = record { made = s.made; records = s.records; halves = halves; loose = loose }

-- whatever halves are beside them, the parts of the sessions owe one another nothing still
abbrev pub StayConsistent : Served → Served → Type 0
StayConsistent old new = (entity : ℕ) (halves : List PendingNow) (loose : List LooseNow) →
    AreConsistent old.supply entity (sessions_of old halves loose) → AreConsistent new.supply entity (sessions_of new halves loose)
