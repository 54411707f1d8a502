-- What was done on an end before it was handed over, and how much of that was done again. This project's own.
use Rattle.std.specs.Prelude.{◌≡◌, ℕ, ◌+◌, ◌<◌, ◌≤◌, Bool, true, false, List, length, take, drop, slice_get, Some}
use Rattle.m2_fabric.specs.Log.{IsPieceOf, Log, after_read, after_write}
use Rattle.m2_fabric.specs.declared.end.EndRead.{EndRead}
use Rattle.m2_fabric.specs.declared.end.EndRead.TheVariants as read
use Rattle.m2_fabric.specs.declared.end.EndWrite.{EndWrite}
use Rattle.m2_fabric.specs.declared.end.EndWrite.TheVariants as write
use Rattle.m2_fabric.specs.declared.log.Run.TheVariants as run
use Rattle.m2_fabric.specs.declared.log.TheConstants.{MOST_MOVED}
use Rattle.m2_journal.specs.declared.entry.Entry.TheVariants as entry
use Rattle.m2_trail.specs.Incoming.{with_entry}
use Rattle.m2_trail.specs.Trails.{TrailNow}

-- what the half did that was handed over, and what of that was done again
pub record PastNow : Type 0 where
  pub trail : TrailNow
  pub log : Log

-- the first ones of a list
pub record IsFrontOf {A : Type 0} (all front : List A) : Type 0 where
  pub within : length front ≤ length all
  pub same : take (length front) all ≡ front

-- What was done again is the first of what was done: of the bytes read, of the bytes written, and of the reads and writes.
pub record IsDoneAgain (was log : Log) : Type 0 where
  pub got : IsFrontOf was.got log.got
  pub put : IsFrontOf was.put log.put
  pub runs : IsFrontOf was.runs log.runs
  pub closed : log.closed ≡ was.closed

-- a read is done again, or there is none to be done now
abbrev pub ReadsAgain : EndRead → List ℕ → Log → Log → Type 0
ReadsAgain (read.Got n) piece old new = IsPieceOf n piece × (new ≡ after_read (read.Got n) piece old)
ReadsAgain read.NotYet piece old new = new ≡ after_read read.NotYet piece old
ReadsAgain read.NoMemory piece old new = new ≡ old
ReadsAgain _ piece old new = ⊥

-- the same of a write
abbrev pub WritesAgain : EndWrite → List ℕ → Log → Log → Type 0
WritesAgain (write.Put n) piece old new = IsPieceOf n piece × (new ≡ after_write (write.Put n) piece old)
WritesAgain write.NotYet piece old new = new ≡ after_write write.NotYet piece old
WritesAgain write.NoMemory piece old new = new ≡ old
WritesAgain _ piece old new = ⊥

-- What was done next is a read of n bytes, which a piece of so many bytes has room for.
pub record IsNextRead (was log : Log) (room n : ℕ) : Type 0 where
  pub some : 0 < n
  pub most : n ≤ MOST_MOVED
  pub fits : n ≤ room
  pub there : length log.got + n ≤ length was.got
  pub run : slice_get was.runs (length log.runs) ≡ Some (run.Read n)

-- What was done next is a write of n bytes, the first ones of this piece.
pub record IsNextWrite (was log : Log) (piece : List ℕ) (n : ℕ) : Type 0 where
  pub some : 0 < n
  pub most : n ≤ MOST_MOVED
  pub fits : n ≤ length piece
  pub there : length log.put + n ≤ length was.put
  pub same : take n piece ≡ take n (drop (length log.put) was.put)
  pub run : slice_get was.runs (length log.runs) ≡ Some (run.Wrote n)

-- the trail behind a close of an end that was closed already, or wasn't
abbrev pub closed_trail : (closed : Bool) → TrailNow → TrailNow
closed_trail true t = t
closed_trail false t = with_entry (entry.Closed t.socket) t
