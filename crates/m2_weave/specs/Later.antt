-- What strands and the bytes of their ends are behind a turn, beside what they were before it. This project's own.
use Rattle.std.specs.Prelude.{◌≡◌, ℕ, ◌+◌, ◌<◌, ◌≤◌, List, [], ◌∷◌, ◌++◌, length, take, drop, slice_get, Some}
use Rattle.m2_fabric.specs.declared.socket.SocketId.{SocketId}
use Rattle.m2_journal.specs.declared.entry.Entry.TheVariants as entry
use Rattle.m2_weave.specs.declared.strand.StrandItem.TheVariants.{Noted}
use Rattle.m2_weave.specs.Strands.{EndOf, StrandNow, other, end_in, has_opened, begun_at, place_of, read_by, total, written_at, written_by}
use Rattle.m2_weave.specs.Rule.{Woven, AreThere, byte_at, strand_at}
use Rattle.m2_weave.specs.Stops.{sizes}
use Rattle.m2_weave.specs.Tidy.{AreTidy}

-- ---- what goes on

-- the second list begins with the first
abbrev pub GoesOn : {X : Type 0} → (old new : List X) → Type 0
GoesOn {X} old new = (more : List X) × (new ≡ old ++ more)

-- a strand has read, or written, on a socket
abbrev pub HasRead : StrandNow → SocketId → Type 0
HasRead s k = 0 < total (read_by k) s.items

abbrev pub HasWritten : StrandNow → SocketId → Type 0
HasWritten s k = 0 < total (written_by k) s.items

-- A strand goes on with further items. What it had read and written is still of the same ends, since it hasn't opened a socket
-- on which it had read or written; and its bytes are still counted from the same place, since no half has read more on a socket
-- on which a journal has read behind it.
pub record StrandGoesOn (old new : Woven) (s t : StrandNow) : Type 0 where
  pub items : GoesOn s.items t.items
  pub reads : (k : SocketId) → HasRead s k → has_opened t k ≡ has_opened s k
  pub writes : (k : SocketId) → HasWritten s k → has_opened t k ≡ has_opened s k
  pub begun : (k : SocketId) → HasRead s k → begun_at new.strands t k ≡ begun_at old.strands s k

-- Each strand has its place among the new ones, no two the same, and goes on there; there may be others besides. And what ends
-- have got and put goes on.
pub record IsLater (old new : Woven) : Type 0 where
  pub place : ℕ → ℕ
  pub apart : (i j : ℕ) → i < length old.strands → j < length old.strands → place i ≡ place j → i ≡ j
  pub strands : (i : ℕ) → i < length old.strands → StrandGoesOn old new (strand_at old i) (strand_at new (place i))
  pub got : (e : EndOf) → GoesOn (old.bytes.got e) (new.bytes.got e)
  pub put : (e : EndOf) → GoesOn (old.bytes.put e) (new.bytes.put e)

-- ---- what is read

-- all that a strand has read on a socket its end has got
abbrev pub HaveGot : Woven → Type 0
HaveGot w = (j : ℕ) (k : SocketId) → HasRead (strand_at w j) k →
    begun_at w.strands (strand_at w j) k + total (read_by k) (strand_at w j).items ≤ length (w.bytes.got (end_in (strand_at w j) k))

-- behind so many items a strand reads so many bytes on a socket
abbrev pub ReadsAt : StrandNow → ℕ → SocketId → (count : ℕ) → Type 0
ReadsAt s n k count = slice_get s.items n ≡ Some (Noted (entry.Read k count))

-- an item of a new strand is of the turn: it stands behind all that the strand was before
abbrev pub IsOfTurn : Woven → (place : ℕ → ℕ) → (j n : ℕ) → Type 0
IsOfTurn old place j n = (i : ℕ) → i < length old.strands → place i ≡ j → length (strand_at old i).items ≤ n

-- the bytes that a strand reads behind so many items are those that the other end had written there before the turn
abbrev pub WasWritten : (old new : Woven) → StrandNow → ℕ → SocketId → (count : ℕ) → Type 0
WasWritten old new t n k count =
    AreThere (byte_at old (sizes old) (other (end_in t k))) (place_of new.strands t n k)
    (take count (drop (place_of new.strands t n k) (new.bytes.got (end_in t k))))

-- whatever is read in the turn
abbrev pub WasWrittenBefore : (old new : Woven) → (place : ℕ → ℕ) → Type 0
WasWrittenBefore old new place = (j n count : ℕ) (k : SocketId) → IsOfTurn old place j n → ReadsAt (strand_at new j) n k count →
    WasWritten old new (strand_at new j) n k count

-- ---- a turn

-- Strands go on, and what they read in the turn had been written before it. Behind it they are tidy, as records' strands are.
pub record IsTurn (old new : Woven) : Type 0 where
  pub later : IsLater old new
  pub got : HaveGot old
  pub read : WasWrittenBefore old new later.place
  pub tidy : AreTidy new

-- ---- a turn by the bytes of its ends

-- all that ends have put strands have written
abbrev pub HaveWritten : Woven → Type 0
HaveWritten w = (e : EndOf) → length (w.bytes.put e) ≤ written_at w.strands (sizes w) e

-- all that an end has got by the end of the turn the other end had put before it
abbrev pub HadFlowed : (old new : Woven) → Type 0
HadFlowed old new = (e : EndOf) → GoesOn (new.bytes.got e) (old.bytes.put (other e))

pub record IsTurnOfBytes (old new : Woven) : Type 0 where
  pub later : IsLater old new
  pub got : HaveGot old
  pub written : HaveWritten old
  pub flowed : HadFlowed old new
  pub tidy : AreTidy new

-- ---- many turns

-- turns one after the other
abbrev pub AreTurns : Woven → List Woven → Type 0
AreTurns w [] = Unit {0}
AreTurns w (x ∷ xs) = IsTurn w x × AreTurns x xs

-- behind all of them
abbrev pub behind : Woven → List Woven → Woven
behind w [] = w
behind w (x ∷ xs) = behind x xs
