-- What contracts see of an end, and how each of its calls changes that. This project's own.
use Rattle.std.specs.Prelude.{◌≡◌, ℕ, ◌≤◌, ◌||◌, min, Bool, true, false, List, [], ◌++◌, length, take, drop, Option, Some, None, IfSome}
use Rattle.std.specs.Option.{option_map}
use Rattle.m2_edge.specs.Faults.{HasRisen, next_count}
use Rattle.m2_fabric.specs.Cuts.{allowance, is_cut, passed}
use Rattle.m2_fabric.specs.Log.{Log, IsPieceOf, after_close, after_read, after_write, nothing_done}
use Rattle.m2_fabric.specs.declared.end.EndRead.{EndRead}
use Rattle.m2_fabric.specs.declared.end.EndRead.TheVariants as read
use Rattle.m2_fabric.specs.declared.end.EndWrite.{EndWrite}
use Rattle.m2_fabric.specs.declared.end.EndWrite.TheVariants as write
use Rattle.m2_fabric.specs.declared.end.News.{News}
use Rattle.m2_fabric.specs.declared.end.News.TheVariants as news
use Rattle.m2_fabric.specs.declared.log.TheConstants.{MOST_MOVED}
use Rattle.m2_fabric.specs.declared.socket.SocketId.{SocketId}

-- What an end in memory was told of the other side: the bytes that came and weren't read yet; whether the other end
-- was closed; whether nothing more will come; and whether this end fails from now on.
pub record Inflow : Type 0 where
  pub readable : List ℕ
  pub closed : Bool
  pub ended : Bool
  pub failed : Bool

abbrev pub nothing_told : Inflow
nothing_told = record { readable = []; closed = false; ended = false; failed = false }

-- The socket's name, what the end did, how many faults there were, and after how many more bytes, read and written
-- together, the end is cut; None where it isn't to be. An end in memory tells besides what it was told of the other side;
-- another has None there.
pub record SeenEnd : Type 0 where
  pub id : SocketId
  pub log : Log
  pub faults : ℕ
  pub left : Option ℕ
  pub inflow : Option Inflow

-- an end of a socket in memory, before its first call
abbrev pub fresh_end : SocketId → SeenEnd
fresh_end id = record { id = id; log = nothing_done; faults = 0; left = None; inflow = Some nothing_told }

-- The call failed and is counted. An end in memory fails only where it is cut or was told so, and counts each failure once.
pub record Fails (told : Inflow → Bool) (old new : SeenEnd) : Type 0 where
  pub risen : HasRisen old.faults new.faults
  pub cause : IfSome old.inflow (λ i. (is_cut old.left || told i) ≡ true)
  pub once : IfSome old.inflow (λ i. new.faults ≡ next_count old.faults)

-- ---- reading

-- the bound, after a read that answered so
abbrev pub left_read : EndRead → Option ℕ → Option ℕ
left_read (read.Got n) left = passed n left
left_read _ left = left

-- the end, after a read into a piece that answered so
abbrev pub with_read : EndRead → List ℕ → SeenEnd → SeenEnd
with_read answer piece s = record s { log = after_read answer piece s.log; left = left_read answer s.left }

-- what was told, without the first n bytes
abbrev pub unread : ℕ → Inflow → Inflow
unread n i = record i { readable = drop n i.readable }

-- the end isn't cut, nor is it to fail
pub record IsWhole (left : Option ℕ) (i : Inflow) : Type 0 where
  pub uncut : is_cut left ≡ false
  pub whole : i.failed ≡ false

-- The first n bytes of a piece are the first ones that came: as many as came, as the piece holds, as may pass, and as one
-- read moves.
pub record ComesFrom (left : Option ℕ) (i : Inflow) (n : ℕ) (piece : List ℕ) : Type 0 where
  pub whole : IsWhole left i
  pub fits : n ≤ length i.readable
  pub bytes : take n piece ≡ take n i.readable
  pub most : n ≡ min (allowance left (length piece)) (min (length i.readable) MOST_MOVED)

-- all that came was read, and it is known whether that was the end
pub record IsReadUp (at_end : Bool) (left : Option ℕ) (i : Inflow) : Type 0 where
  pub whole : IsWhole left i
  pub nothing : i.readable ≡ []
  pub ended : i.ended ≡ at_end

-- Reading into a piece, as it is after the call, by the answer. An end in memory answers Failed exactly where it is cut or
-- was told to fail; else NotYet or Ended exactly where all that came was read, by whether it was told that nothing more
-- will come; else it gives as much of what came as it can. Only want of memory is free.
abbrev pub Reads : EndRead → List ℕ → SeenEnd → SeenEnd → Type 0
Reads (read.Got n) piece old new =
    IsPieceOf n piece × IfSome old.inflow (λ i. ComesFrom old.left i n piece)
    × (new ≡ record (with_read (read.Got n) piece old) { inflow = option_map (unread n) old.inflow })
Reads read.NotYet piece old new = IfSome old.inflow (IsReadUp false old.left) × (new ≡ with_read read.NotYet piece old)
Reads read.Ended piece old new = IfSome old.inflow (IsReadUp true old.left) × (new ≡ with_read read.Ended piece old)
Reads read.Failed piece old new = Fails (λ i. i.failed) old new × (new ≡ record old { faults = new.faults })
Reads read.NoMemory piece old new = new ≡ old

-- For want of memory a read leaves the piece as it was.
abbrev pub LeavesPiece : EndRead → List ℕ → List ℕ → Type 0
LeavesPiece read.NoMemory old new = new ≡ old
LeavesPiece _ old new = Unit {0}

-- ---- writing

-- the bound, after a write that answered so
abbrev pub left_written : EndWrite → Option ℕ → Option ℕ
left_written (write.Put n) left = passed n left
left_written _ left = left

-- the end, after a write of a piece that answered so
abbrev pub with_write : EndWrite → List ℕ → SeenEnd → SeenEnd
with_write answer piece s = record s { log = after_write answer piece s.log; left = left_written answer s.left }

-- The other end isn't closed, and this one is neither cut nor to fail. The whole piece is taken, as far as it may pass and
-- as one write moves it.
pub record TakesBytes (left : Option ℕ) (i : Inflow) (n : ℕ) (piece : List ℕ) : Type 0 where
  pub whole : IsWhole left i
  pub other_end : i.closed ≡ false
  pub most : n ≡ min (allowance left (length piece)) MOST_MOVED

-- Writing a piece, by the answer. An end in memory answers Failed exactly where it is cut, was told to fail, or the other
-- end was closed; else it takes as much as it can, and it never answers NotYet. Only want of memory is free.
abbrev pub Writes : EndWrite → List ℕ → SeenEnd → SeenEnd → Type 0
Writes (write.Put n) piece old new =
    IsPieceOf n piece × IfSome old.inflow (λ i. TakesBytes old.left i n piece) × (new ≡ with_write (write.Put n) piece old)
Writes write.NotYet piece old new = (old.inflow ≡ None) × (new ≡ with_write write.NotYet piece old)
Writes write.Failed piece old new = Fails (λ i. i.failed || i.closed) old new × (new ≡ record old { faults = new.faults })
Writes write.NoMemory piece old new = new ≡ old

-- ---- closing, and news of the other side

abbrev pub after_closing : SeenEnd → SeenEnd
after_closing s = record s { log = after_close s.log }

abbrev pub told : News → List ℕ → Inflow → Inflow
told news.Flow bytes i = record i { readable = i.readable ++ bytes }
told news.Closed bytes i = record i { closed = true }
told news.Ended bytes i = record i { ended = true }
told news.Failed bytes i = record i { failed = true }

-- What is told changes what the end knows of the other side, where it is an end in memory, and nothing else.
abbrev pub after_news : News → List ℕ → SeenEnd → SeenEnd
after_news n bytes s = record s { inflow = option_map (told n bytes) s.inflow }
