-- How what a journal speaks of grows by one entry.
use Rattle.std.specs.Prelude.{◌≡◌, ℕ, ◌<◌, true, false, List, [], ◌∷◌, ◌++◌, length}
use Rattle.std.specs.List.{AllByRecursion}
use Rattle.m2_fabric.specs.declared.log.Run.TheVariants as run
use Rattle.m2_fabric.specs.declared.socket.SocketId.{SocketId}
use Rattle.m2_fabric.specs.Sockets.{same_socket}
use Rattle.m2_journal.specs.declared.entry.Entry.{Entry}
use Rattle.m2_journal.specs.declared.entry.Entry.TheVariants as entry
use Rattle.m2_journal.specs.Growth.{IsExtended, IsSettled}
use Rattle.m2_journal.specs.Items.{Sources, reach_of}

-- the logs are as they were, and the plan goes on
pub record KeepLogs (old new : Sources) : Type 0 where
  pub plan : IsExtended old.plan new.plan
  pub got : (k : SocketId) → new.got k ≡ old.got k
  pub put : (k : SocketId) → new.put k ≡ old.put k
  pub runs : (k : SocketId) → new.runs k ≡ old.runs k

-- one end has read these bytes at once, and no other log has changed
pub record HaveRead (socket : SocketId) (bytes : List ℕ) (old new : Sources) : Type 0 where
  pub plan : IsExtended old.plan new.plan
  pub got : new.got socket ≡ old.got socket ++ bytes
  pub runs : new.runs socket ≡ old.runs socket ++ run.Read (length bytes) ∷ []
  pub other_got : (k : SocketId) → same_socket k socket ≡ false → new.got k ≡ old.got k
  pub put : (k : SocketId) → new.put k ≡ old.put k
  pub other_runs : (k : SocketId) → same_socket k socket ≡ false → new.runs k ≡ old.runs k

-- one end has put these bytes at once
pub record HavePut (socket : SocketId) (bytes : List ℕ) (old new : Sources) : Type 0 where
  pub plan : IsExtended old.plan new.plan
  pub put : new.put socket ≡ old.put socket ++ bytes
  pub runs : new.runs socket ≡ old.runs socket ++ run.Wrote (length bytes) ∷ []
  pub other_put : (k : SocketId) → same_socket k socket ≡ false → new.put k ≡ old.put k
  pub got : (k : SocketId) → new.got k ≡ old.got k
  pub other_runs : (k : SocketId) → same_socket k socket ≡ false → new.runs k ≡ old.runs k

-- what the entries until now speak of is settled
abbrev pub AreSettled : Sources → Sources → List Entry → Type 0
AreSettled old new journal = AllByRecursion (IsSettled old new) journal

-- an entry that moves no bytes
abbrev pub MovesNothing : Entry → Type 0
MovesNothing (entry.Read socket count) = ⊥
MovesNothing (entry.Wrote socket count) = ⊥
MovesNothing _ = Unit {0}

-- an entry that is a step of the plan
abbrev pub StepIsThere : Sources → List Entry → Entry → Type 0
StepIsThere s journal (entry.Post place) = (reach_of journal).steps < length s.plan
StepIsThere s journal entry.Dial = (reach_of journal).steps < length s.plan
StepIsThere s journal (entry.Down true) = (reach_of journal).steps < length s.plan
StepIsThere s journal _ = Unit {0}
