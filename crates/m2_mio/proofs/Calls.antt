-- A call on the first part of a piece, as one on the piece.
use Rattle.std.proofs.Common.{ℕ, List, take, Option, arith, length-take}
use Rattle.std.proofs.lemmas.List.{take-take}
use Rattle.m2_fabric.specs.declared.end.EndRead.{EndRead}
use Rattle.m2_fabric.specs.declared.end.EndRead.TheVariants as read
use Rattle.m2_fabric.specs.declared.end.EndWrite.{EndWrite}
use Rattle.m2_fabric.specs.declared.end.EndWrite.TheVariants as write
use Rattle.m2_mio.specs.Stream.{IsGiven, IsReadOf, IsTaken, IsWriteOf}

pub read_within : (answer : EndRead) (m : ℕ) (piece : List ℕ) → IsReadOf answer (take m piece) → IsReadOf answer piece
read_within (read.Got n) m piece r = record { some = r.some; fits = omega (arith, r.fits, length-take m piece); most = r.most }
read_within read.NotYet m piece r = r
read_within read.Ended m piece r = r
read_within read.Failed m piece r = r
read_within read.NoMemory m piece r = r

pub given_within : (answer : EndRead) (m : ℕ) (piece : List ℕ) (old new : Option (List ℕ)) → IsReadOf answer (take m piece)
    → IsGiven answer (take m piece) old new → IsGiven answer piece old new
given_within (read.Got n) m piece old new r g = rw (← take-take n m piece (omega (arith, r.fits, length-take m piece))) g
given_within read.NotYet m piece old new r g = g
given_within read.Ended m piece old new r g = g
given_within read.Failed m piece old new r g = g
given_within read.NoMemory m piece old new r g = g

pub write_within : (answer : EndWrite) (m : ℕ) (piece : List ℕ) → IsWriteOf answer (take m piece) → IsWriteOf answer piece
write_within (write.Put n) m piece r = record { some = r.some; fits = omega (arith, r.fits, length-take m piece); most = r.most }
write_within write.NotYet m piece r = r
write_within write.Failed m piece r = r
write_within write.NoMemory m piece r = r

pub taken_within : (answer : EndWrite) (m : ℕ) (piece : List ℕ) (old new : Option (List ℕ)) → IsWriteOf answer (take m piece)
    → IsTaken answer (take m piece) old new → IsTaken answer piece old new
taken_within (write.Put n) m piece old new r g = rw (← take-take n m piece (omega (arith, r.fits, length-take m piece))) g
taken_within write.NotYet m piece old new r g = g
taken_within write.Failed m piece old new r g = g
taken_within write.NoMemory m piece old new r g = g
