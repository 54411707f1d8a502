-- What a node's turn leaves of its port. This project's own.
use Rattle.std.specs.Prelude.{◌≡◌, ◌⊎◌, ◌&&◌, not, Bool, true, List, ◌++◌, IsSome}
use Rattle.m2_fabric.specs.declared.socket.SocketId.{SocketId}
use Rattle.m2_fabric.specs.End.{SeenEnd}
use Rattle.m2_fabric.specs.Sockets.{is_among}
use Rattle.m2_turn.specs.m2_record.RecordNow.{ids_of}
use Rattle.m2_turn.specs.m2_record.Sources.{end_at}
use Rattle.m2_growth.specs.Holding.{Holding, all_ends, ends_held, waiting_at}

-- Each socket that the port has made since has its end; and of the ends that waited the first ones were accepted, and the others
-- wait as they did.
pub record PortStands (old new : Holding) : Type 0 where
  pub made : (k : SocketId) → is_among k new.port.made ≡ true → (is_among k old.port.made ≡ true) ⊎ IsSome (end_at (all_ends new) k)
  pub gone : List SeenEnd
  pub waiting : waiting_at old.port ≡ gone ++ waiting_at new.port

-- an end of the socket waits for an accept, and no record and no half has one
abbrev pub waits_there : Holding → SocketId → Bool
waits_there h k = is_among k (ids_of (waiting_at h.port)) && not (is_among k (ids_of (ends_held h)))
