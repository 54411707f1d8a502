-- An end that breaks after so many bytes.
use Rattle.std.specs.Prelude.{◌≡◌, ℕ, ◌+◌, ◌≤◌, true, false, List, length, take, Option, IfSome}
use Rattle.m2_edge.specs.Faults.{next_count}
use Rattle.m2_fabric.specs.Cuts.{allowance, is_cut, least, passed}
use Rattle.m2_fabric.specs.End.{Reads, SeenEnd, Writes, left_read, left_written}
use Rattle.m2_fabric.specs.Log.{Log}
use Rattle.m2_fabric.specs.declared.end.EndRead.{EndRead}
use Rattle.m2_fabric.specs.declared.end.EndRead.TheVariants as read
use Rattle.m2_fabric.specs.declared.end.EndWrite.{EndWrite}
use Rattle.m2_fabric.specs.declared.end.EndWrite.TheVariants as write

-- The end inside; the bound that this one was made with: how many bytes pass in all, read and written together, or None where
-- there is no bound; how many more pass; and how many faults there were, those of the end inside among them.
pub record Bounded : Type 0 where
  pub inner : SeenEnd
  pub bound : Option ℕ
  pub left : Option ℕ
  pub faults : ℕ

-- how many bytes an end read and wrote
abbrev pub moved : Log → ℕ
moved log = length log.got + length log.put

-- What an end is that breaks after so many bytes, since it was made: what the end inside moved is within the bound, and what is
-- left is the rest of it. Its faults are those of the end inside; only where nothing more passes there may be more.
pub record IsCutRight (b : Bounded) : Type 0 where
  pub within : IfSome b.bound (λ bound. moved b.inner.log ≤ bound)
  pub left : b.left ≡ passed (moved b.inner.log) b.bound
  pub faults : b.inner.faults ≤ b.faults
  pub uncut : is_cut b.left ≡ false → b.faults ≡ b.inner.faults

-- what every end shows, of this one: the end inside with the count of this one, and its bound too
abbrev pub shown : Bounded → SeenEnd
shown b = record b.inner { faults = b.faults; left = least b.left b.inner.left }

-- as much of a piece as may pass
abbrev pub allowed : Option ℕ → List ℕ → List ℕ
allowed left piece = take (allowance left (length piece)) piece

-- nothing more passes: the end inside isn't called, and one more fault is counted
abbrev pub cut_off : Bounded → Bounded
cut_off b = record b { faults = next_count b.faults }

-- A read by the end inside, into as much of the piece as may pass; where nothing more may pass it isn't called, and
-- the read fails by itself.
pub record ReadsBounded (answer : EndRead) (piece : List ℕ) (old new : Bounded) : Type 0 where
  pub cut : is_cut old.left ≡ true → (answer ≡ read.Failed) × (new ≡ cut_off old)
  pub inside : is_cut old.left ≡ false → Reads answer (allowed old.left piece) old.inner new.inner
  pub faults : is_cut old.left ≡ false → new.faults ≡ new.inner.faults
  pub left : new.left ≡ left_read answer old.left
  pub bound : new.bound ≡ old.bound

-- A write by the end inside, of as much of the piece as may pass; where nothing more may pass it isn't called, and
-- the write fails by itself.
pub record WritesBounded (answer : EndWrite) (piece : List ℕ) (old new : Bounded) : Type 0 where
  pub cut : is_cut old.left ≡ true → (answer ≡ write.Failed) × (new ≡ cut_off old)
  pub inside : is_cut old.left ≡ false → Writes answer (allowed old.left piece) old.inner new.inner
  pub faults : is_cut old.left ≡ false → new.faults ≡ new.inner.faults
  pub left : new.left ≡ left_written answer old.left
  pub bound : new.bound ≡ old.bound
