-- What becomes of ends where their own side acts, and nothing is told of the other. This project's own.
use Rattle.std.specs.Prelude.{◌≡◌, ℕ, true, List, [], ◌++◌, Option, Some, None, IfSome}
use Rattle.std.specs.List.{IsDistinct}
use Rattle.std.specs.Option.{option_map}
use Rattle.m2_fabric.specs.declared.socket.SocketId.{SocketId}
use Rattle.m2_fabric.specs.End.{Inflow, SeenEnd}
use Rattle.m2_fabric.specs.Sockets.{same_socket}
use Rattle.m2_turn.specs.m2_record.RecordNow.{ids_of}
use Rattle.m2_turn.specs.m2_record.Sources.{end_at}
use Rattle.m2_weave.specs.Later.{GoesOn}

-- all that has come to an end in memory: what it got, and then what is readable there
abbrev pub come_to : SeenEnd → Option (List ℕ)
come_to e = option_map (λ (i : Inflow). e.log.got ++ i.readable) e.inflow

-- The same end, later: of what it did nothing is undone, and nothing more came to it.
pub record EndGrows (e f : SeenEnd) : Type 0 where
  pub id : f.id ≡ e.id
  pub got : GoesOn e.log.got f.log.got
  pub put : GoesOn e.log.put f.log.put
  pub closed : e.log.closed ≡ true → f.log.closed ≡ true
  pub come : come_to f ≡ come_to e

-- nothing has come to it
abbrev pub IsNewborn : SeenEnd → Type 0
IsNewborn e = IfSome (come_to e) (λ bytes. bytes ≡ [])

-- the end of a socket, before and later: it grows, or is a new one
abbrev pub EndGrowsTo : Option SeenEnd → Option SeenEnd → Type 0
EndGrowsTo (Some e) (Some f) = EndGrows e f
EndGrowsTo (Some e) None = ⊥
EndGrowsTo None (Some f) = IsNewborn f
EndGrowsTo None None = Unit {0}

-- the end of each socket
abbrev pub EndsGrow : (old new : List SeenEnd) → Type 0
EndsGrow old new = (k : SocketId) → EndGrowsTo (end_at old k) (end_at new k)

-- no socket has an end now that had none
abbrev pub BringNone : (old new : List SeenEnd) → Type 0
BringNone old new = (k : SocketId) → end_at old k ≡ None → end_at new k ≡ None

-- no two of them are of one socket
abbrev pub AreOfTheirOwn : List SeenEnd → Type 0
AreOfTheirOwn ends = IsDistinct same_socket (ids_of ends)
