-- The halves of a center: those in their turns, and those that are over. This project's own.
use Rattle.std.specs.Prelude.{List, [], ◌++◌, map}
use Rattle.std.specs.List.{AllByRecursion}
use Rattle.m2_fabric.specs.declared.socket.SocketId.{SocketId}
use Rattle.m2_trail.specs.Arrivals.{LooseNow, left_of}
use Rattle.m2_trail.specs.Trails.{IsWholeTrail}
use Rattle.m2_record.specs.RecordNow.{RecordNow}
use Rattle.m2_turn.specs.Sessions.{PendingNow, Sessions}

-- the sockets of peers that no record took, in the order of acceptance, and the ones that are over
pub record AllHalves : Type 0 where
  pub pending : List PendingNow
  pub loose : List LooseNow

abbrev pub halves_of : List PendingNow → List LooseNow → AllHalves
halves_of pending loose = record { pending = pending; loose = loose }

-- a center's sessions, with these halves
abbrev pub sessions_with : (made : List SocketId) → List RecordNow → AllHalves → Sessions
sessions_with made records h = record { made = made; records = records; halves = h.pending; loose = h.loose }

-- all are left as they are, behind those that are over
abbrev pub after_leaving : AllHalves → AllHalves
after_leaving h = record { pending = []; loose = h.loose ++ map (λ (p : PendingNow). left_of p.half) h.pending }

-- ---- their trails

-- the trail of a half tells all that its end did
abbrev pub IsWhole : LooseNow → Type 0
IsWhole l = IsWholeTrail l.trail l.end

abbrev pub IsWholeHere : PendingNow → Type 0
IsWholeHere p = IsWholeTrail p.half.trail p.half.end

-- so do those of all, in their turns or over
abbrev pub AreWhole : AllHalves → Type 0
AreWhole h = AllByRecursion IsWhole (map (λ (p : PendingNow). left_of p.half) h.pending ++ h.loose)
