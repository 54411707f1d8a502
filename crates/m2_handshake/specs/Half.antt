-- What the calls of a half answer, and where they leave it.
use Rattle.std.specs.Prelude.{◌≡◌, ℕ, ◌+◌, ◌<◌, true, List, ◌++◌, length, drop, Option, Some, None, Result, Ok, Err}
use Rattle.m2_bytes.specs.declared.memory.NoMemory as OutOfMemory
use Rattle.m2_bytes.specs.Blob.{Contents}
use Rattle.m2_frame.specs.Frame.{Parts}
use Rattle.m2_handshake.specs.declared.answer.HalfStep.{HalfStep}
use Rattle.m2_handshake.specs.declared.answer.HalfStep.TheVariants as answer
use Rattle.m2_handshake.specs.declared.halt.Halt.{Halt}
use Rattle.m2_handshake.specs.declared.halt.Halt.TheVariants.{NotYet, Fault, NoMemory}
use Rattle.m2_handshake.specs.declared.progress.Progress.{Progress}
use Rattle.m2_handshake.specs.declared.progress.Progress.TheVariants.{On, Wrote, Signed}
use Rattle.m2_handshake.specs.declared.reaction.Turn.{Turn}
use Rattle.m2_handshake.specs.declared.reaction.Turn.TheVariants.{Says, Listens, Signs}
use Rattle.m2_handshake.specs.declared.stage.Awaited.TheVariants.{Hello}
use Rattle.m2_handshake.specs.declared.stage.Stage.{Stage}
use Rattle.m2_handshake.specs.declared.stage.Stage.TheVariants.{Waits, Authed, Ended}
use Rattle.m2_handshake.specs.Moves.{stays, quiet, writes, signs, fails, take_frame, after_reaction, is_authed, is_frame_there, move_of, wants_memory, Quietly}
use Rattle.m2_handshake.specs.Reading.{found_in}
use Rattle.m2_handshake.specs.Standing.{Standing, HalfState, faulted}
use Rattle.m2_handshake.specs.Steps.{Reaction, says, listens, signed, refuses}
use Rattle.m2_handshake.specs.Texts.{frame_text, hello}

-- a half beside the bytes that it appends to
pub record Writer : Type 0 where
  pub standing : Standing
  pub out : List ℕ

abbrev pub writer : HalfState → Contents → Writer
writer h out = record { standing = h.standing; out = out.bytes }

-- the answer to one move
abbrev pub Ends : HalfStep → Writer → Writer → Type 0
Ends answer.NotYet old new = (move_of old.standing ≡ stays) × (new ≡ old)
Ends answer.Wrote old new = (text : List ℕ) × (move_of old.standing ≡ writes text new.standing) × (new.out ≡ old.out ++ text)
Ends answer.Authed old new = (move_of old.standing ≡ signs new.standing) × (new.out ≡ old.out)
Ends (answer.Fault f) old new = (move_of old.standing ≡ fails f) × (new ≡ record old { standing = faulted f old.standing })
Ends answer.NoMemory old new = (wants_memory old.standing ≡ true) × (new ≡ old)

-- moves without a word, and then one that is answered
pub record Answers (result : HalfStep) (old new : Writer) : Type 0 where
  pub passed : List Standing
  pub mid : Standing
  pub quietly : Quietly move_of passed old.standing mid
  pub ends : Ends result (record { standing = mid; out = old.out }) new

-- one move
abbrev pub Advances : Result Progress Halt → Writer → Writer → Type 0
Advances (Ok On) old new = (move_of old.standing ≡ quiet new.standing) × (new.out ≡ old.out)
Advances (Ok Wrote) old new = Ends answer.Wrote old new
Advances (Ok Signed) old new = Ends answer.Authed old new
Advances (Err NotYet) old new = Ends answer.NotYet old new
Advances (Err (Fault f)) old new = (move_of old.standing ≡ fails f) × (new ≡ old)
Advances (Err NoMemory) old new = Ends answer.NoMemory old new

-- ---- where both sides have signed

-- a half that had signed stays as it is
abbrev pub StaysSigned : HalfState → HalfState → Type 0
StaysSigned old new = is_authed old.standing.stage ≡ true → new ≡ old

-- so does its move, which is that both sides have signed
abbrev pub AnswersSigned : Result Progress Halt → HalfState → HalfState → Type 0
AnswersSigned result old new = is_authed old.standing.stage ≡ true → (result ≡ Ok Signed) × (new ≡ old)

-- ---- how much is left

-- how much a half has left to read: each byte, and a frame that it has in hand
abbrev pub held_work : Option Parts → ℕ
held_work (Some f) = 1
held_work None = 0

abbrev pub work_left : Standing → ℕ
work_left s = length s.rest + held_work s.held

abbrev pub Shrinks : Result Progress Halt → Standing → Standing → Type 0
Shrinks (Ok On) old new = work_left new < work_left old
Shrinks _ old new = Unit {0}

-- ---- the parts of a move

-- HELLO is written behind a banner of so many bytes
abbrev pub SaysHello : Result (Unit {0}) OutOfMemory.NoMemory → ℕ → Writer → Writer → Type 0
SaysHello (Ok _) used old new =
    (new.standing ≡ record old.standing { stage = Waits Hello; rest = drop used old.standing.rest })
    × (new.out ≡ old.out ++ frame_text (hello old.standing.entity old.standing.seen))
SaysHello (Err _) used old new = new ≡ old

-- unread bytes lie in the decoder
abbrev pub IsReading : Stage → Type 0
IsReading (Waits awaited) = Unit {0}
IsReading Authed = Unit {0}
IsReading Ended = Unit {0}
IsReading _ = ⊥

-- the next frame is taken into hand
abbrev pub TakesFrame : Result (Unit {0}) Halt → Standing → Standing → Type 0
TakesFrame (Ok _) old new = (take_frame old (found_in old.rest) ≡ quiet new) × (work_left new < work_left old)
TakesFrame (Err NotYet) old new = (take_frame old (found_in old.rest) ≡ stays) × (new ≡ old)
TakesFrame (Err (Fault f)) old new = (take_frame old (found_in old.rest) ≡ fails f) × (new ≡ old)
TakesFrame (Err NoMemory) old new = (is_frame_there old.held (found_in old.rest) ≡ true) × (new ≡ old)

-- what the code is to do is what the table says, or memory ran out
abbrev pub reaction_of : Turn → Reaction
reaction_of (Says next text) = says next text.bytes
reaction_of (Listens next) = listens next
reaction_of Signs = signed

abbrev pub GivesTurn : Result Turn Halt → Reaction → Type 0
GivesTurn (Ok turn) brought = brought ≡ reaction_of turn
GivesTurn (Err (Fault f)) brought = brought ≡ refuses f
GivesTurn (Err NoMemory) brought = Unit {0}
GivesTurn (Err NotYet) brought = ⊥

-- it is done
abbrev pub Follows : Turn → Result Progress Halt → Writer → Writer → Type 0
Follows turn (Ok On) old new =
    (after_reaction old.standing (reaction_of turn) ≡ quiet new.standing) × (new.out ≡ old.out) × (work_left new.standing < work_left old.standing)
Follows turn (Ok Wrote) old new =
    (text : List ℕ) × (after_reaction old.standing (reaction_of turn) ≡ writes text new.standing) × (new.out ≡ old.out ++ text)
Follows turn (Ok Signed) old new = (after_reaction old.standing (reaction_of turn) ≡ signs new.standing) × (new.out ≡ old.out)
Follows turn (Err NoMemory) old new = new ≡ old
Follows turn (Err _) old new = ⊥
