-- What the parts of an incoming socket's calls leave. This project's own.
use Rattle.std.specs.Prelude.{◌≡◌, ℕ, ◌≤◌, List, length}
use Rattle.m2_fabric.specs.declared.end.EndRead.{EndRead}
use Rattle.m2_fabric.specs.declared.end.EndRead.TheVariants as read
use Rattle.m2_fabric.specs.declared.end.EndWrite.{EndWrite}
use Rattle.m2_fabric.specs.declared.end.EndWrite.TheVariants as write
use Rattle.m2_fabric.specs.declared.log.TheConstants.{MOST_MOVED}
use Rattle.m2_trail.specs.declared.trail.Trail.{Trail}
use Rattle.m2_trail.specs.Incoming.{noted_read, noted_write}
use Rattle.m2_trail.specs.Trails.{TrailNow, trail_now}

-- a read's count fits an entry
abbrev pub FitsCount : EndRead → Type 0
FitsCount (read.Got n) = n ≤ MOST_MOVED
FitsCount _ = Unit {0}

-- a write's count fits an entry, and so many bytes were left
abbrev pub PutsWithin : EndWrite → (left : List ℕ) → Type 0
PutsWithin (write.Put n) left = (n ≤ MOST_MOVED) × (n ≤ length left)
PutsWithin _ left = Unit {0}

-- the trail tells one entry more or none, and has room for another
pub record Notes (new_trail : TrailNow) (old new : Trail) : Type 0 where
  pub tells : trail_now new ≡ new_trail
  pub room : 1 ≤ new.entries.room
  pub judged : new.judged ≡ old.judged
  pub judged_after : new.judged_after ≡ old.judged_after

abbrev pub NotesRead : EndRead → Trail → Trail → Type 0
NotesRead answer old new = Notes (noted_read answer (trail_now old)) old new

abbrev pub NotesWrite : EndWrite → Trail → Trail → Type 0
NotesWrite answer old new = Notes (noted_write answer (trail_now old)) old new
