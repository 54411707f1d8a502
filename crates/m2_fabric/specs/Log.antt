-- What an end did, and how each answer of its calls changes that. This project's own.
use Rattle.std.specs.Prelude.{ℕ, ◌<◌, ◌≤◌, Bool, true, false, List, [], ◌∷◌, ◌++◌, length, take}
use Rattle.m2_fabric.specs.declared.end.EndRead.{EndRead}
use Rattle.m2_fabric.specs.declared.end.EndRead.TheVariants as read
use Rattle.m2_fabric.specs.declared.end.EndWrite.{EndWrite}
use Rattle.m2_fabric.specs.declared.end.EndWrite.TheVariants as write
use Rattle.m2_fabric.specs.declared.log.EndLog.{EndLog}
use Rattle.m2_fabric.specs.declared.log.Run.{Run}
use Rattle.m2_fabric.specs.declared.log.Run.TheVariants.{Read, Wrote}
use Rattle.m2_fabric.specs.declared.log.TheConstants.{MOST_MOVED}

-- All bytes that an end read and all that it wrote; its reads and writes that moved bytes, in order; whether it
-- was closed; whether its last read, and its last write, answered that it can't yet; and whether a read found the end.
-- A call that failed, or found no memory, leaves no mark here and counts as none: an end that is cut fails by itself,
-- and its log is that of the end inside.
pub record Log : Type 0 where
  pub got : List ℕ
  pub put : List ℕ
  pub runs : List Run
  pub closed : Bool
  pub dry : Bool
  pub blocked : Bool
  pub ended : Bool

-- what a log tells, apart from its room
abbrev pub log_of : EndLog → Log
log_of l = record {
  got = l.got.bytes;
  put = l.put.bytes;
  runs = l.runs.items;
  closed = l.closed;
  dry = l.dry;
  blocked = l.blocked;
  ended = l.ended;
}

-- an end before its first call
abbrev pub nothing_done : Log
nothing_done = record { got = []; put = []; runs = []; closed = false; dry = false; blocked = false; ended = false }

-- After a read into a piece, by its answer. The bytes read are the first ones of the piece, as it is after the call.
abbrev pub after_read : EndRead → List ℕ → Log → Log
after_read (read.Got n) piece log = record log { got = log.got ++ take n piece; runs = log.runs ++ Read n ∷ []; dry = false }
after_read read.NotYet piece log = record log { dry = true }
after_read read.Ended piece log = record log { dry = false; ended = true }
after_read read.Failed piece log = log
after_read read.NoMemory piece log = log

-- After a write of a piece, by its answer. The bytes written are the first ones of the piece.
abbrev pub after_write : EndWrite → List ℕ → Log → Log
after_write (write.Put n) piece log = record log { put = log.put ++ take n piece; runs = log.runs ++ Wrote n ∷ []; blocked = false }
after_write write.NotYet piece log = record log { blocked = true }
after_write write.Failed piece log = log
after_write write.NoMemory piece log = log

abbrev pub after_close : Log → Log
after_close log = record log { closed = true }

-- a count of bytes that a piece has and that one call can move: at least one
pub record IsPieceOf (n : ℕ) (piece : List ℕ) : Type 0 where
  pub some : 0 < n
  pub fits : n ≤ length piece
  pub most : n ≤ MOST_MOVED

-- there is room in the log for what a read answered
abbrev pub FitsRead : EndRead → List ℕ → EndLog → Type 0
FitsRead (read.Got n) piece log = IsPieceOf n piece × (n ≤ log.got.room) × (0 < log.runs.room)
FitsRead _ piece log = Unit {0}

-- there is room in the log for what a write answered
abbrev pub FitsWrite : EndWrite → List ℕ → EndLog → Type 0
FitsWrite (write.Put n) piece log = IsPieceOf n piece × (n ≤ log.put.room) × (0 < log.runs.room)
FitsWrite _ piece log = Unit {0}
