-- What contracts see of an end of a socket between threads, and which of its calls fail.
use Rattle.std.specs.Prelude.{◌≡◌, ℕ, Bool, true, false, List, length, min, None}
use Rattle.m2_fabric.specs.End.{SeenEnd}
use Rattle.m2_fabric.specs.Log.{nothing_done}
use Rattle.m2_fabric.specs.declared.end.EndRead.{EndRead}
use Rattle.m2_fabric.specs.declared.end.EndRead.TheVariants as read
use Rattle.m2_fabric.specs.declared.end.EndWrite.{EndWrite}
use Rattle.m2_fabric.specs.declared.end.EndWrite.TheVariants as write
use Rattle.m2_fabric.specs.declared.log.TheConstants.{MOST_MOVED}
use Rattle.m2_fabric.specs.declared.socket.SocketId.{SocketId}
use Rattle.m2_mem_fabric.specs.Failing.{Failing, after_call, is_to_fail}

-- what every end shows, and which of its reads and writes are to fail
pub record MemSeen : Type 0 where
  pub shows : SeenEnd
  pub reads : Failing
  pub writes : Failing

-- an end before its first call; it tells nothing of what will be readable
abbrev pub fresh_mem_end : SocketId → SeenEnd
fresh_mem_end id = record { id = id; log = nothing_done; faults = 0; left = None; inflow = None }

-- A read fails exactly where it is planned.
abbrev pub FailsWhere : Bool → EndRead → Type 0
FailsWhere planned read.Failed = planned ≡ true
FailsWhere planned _ = planned ≡ false

-- What a read answers beside what every end answers: it fails exactly where it is planned, and is counted.
pub record ReadsPlanned (answer : EndRead) (old new : MemSeen) : Type 0 where
  pub fails : FailsWhere (is_to_fail old.reads) answer
  pub counted : new.reads ≡ after_call old.reads
  pub writes : new.writes ≡ old.writes

-- A write takes its whole piece, as far as one call moves it; it never has to wait, and it fails where it is planned.
-- Where it isn't planned it may fail too: the other end is gone.
abbrev pub WritesWhere : Bool → EndWrite → List ℕ → Type 0
WritesWhere planned (write.Put n) piece = (planned ≡ false) × (n ≡ min (length piece) MOST_MOVED)
WritesWhere planned write.NotYet piece = ⊥
WritesWhere planned write.Failed piece = Unit {0}
WritesWhere planned write.NoMemory piece = planned ≡ false

-- What a write answers beside what every end answers.
pub record WritesPlanned (answer : EndWrite) (piece : List ℕ) (old new : MemSeen) : Type 0 where
  pub fails : WritesWhere (is_to_fail old.writes) answer piece
  pub counted : new.writes ≡ after_call old.writes
  pub reads : new.reads ≡ old.reads

-- what is held is given, or there is no memory to note it
abbrev pub GivesHeld : EndRead → Type 0
GivesHeld (read.Got n) = Unit {0}
GivesHeld read.NoMemory = Unit {0}
GivesHeld _ = ⊥
