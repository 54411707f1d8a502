-- What asks and replies answer, and where they leave a half.
use Rattle.std.specs.Prelude.{◌≡◌, ◌<◌, ◌&&◌, Bool, true, is_none, List, ◌++◌, Option, Some, None, Result, Ok, Err}
use Rattle.m2_bytes.specs.declared.memory.NoMemory as OutOfMemory
use Rattle.m2_control.specs.declared.control.Control.{Control}
use Rattle.m2_control.specs.declared.control.Control.TheVariants as control
use Rattle.m2_handshake.specs.declared.ask.Ask.{Ask}
use Rattle.m2_handshake.specs.declared.ask.AskStep.{AskStep}
use Rattle.m2_handshake.specs.declared.ask.AskStep.TheVariants as step
use Rattle.m2_handshake.specs.declared.halt.Halt.{Halt}
use Rattle.m2_handshake.specs.declared.halt.Halt.TheVariants.{NotYet, Fault, NoMemory}
use Rattle.m2_handshake.specs.declared.stage.Stage.{Stage}
use Rattle.m2_handshake.specs.declared.stage.Stage.TheVariants.{Authed, Ended}
use Rattle.m2_handshake.specs.Asks.{bare_ask}
use Rattle.m2_handshake.specs.Half.{Writer, work_left}
use Rattle.m2_handshake.specs.Moves.{stays, quiet, asks, fails, is_authed, ask_move_of, wants_memory_to_ask, Quietly}
use Rattle.m2_handshake.specs.Standing.{Standing, faulted}
use Rattle.m2_handshake.specs.Texts.{frame_text}

-- both sides have signed, and no frame is in hand
abbrev pub is_ready : Standing → Bool
is_ready s = is_authed s.stage && is_none s.held

-- the answer to one move
abbrev pub AskEnds : AskStep → Standing → Standing → Type 0
AskEnds step.NotYet old new = (ask_move_of old ≡ stays) × (new ≡ old)
AskEnds (step.Asked ask) old new = ask_move_of old ≡ asks (bare_ask ask) new
AskEnds (step.Fault f) old new = (ask_move_of old ≡ fails f) × (new ≡ faulted f old)
AskEnds step.NoMemory old new = (wants_memory_to_ask old ≡ true) × (new ≡ old)

-- moves without a word, and then one that is answered
pub record AskAnswers (result : AskStep) (old new : Standing) : Type 0 where
  pub passed : List Standing
  pub mid : Standing
  pub quietly : Quietly ask_move_of passed old mid
  pub ends : AskEnds result mid new

-- one move: an ask, or none yet
abbrev pub AskAdvances : Result (Option Ask) Halt → Standing → Standing → Type 0
AskAdvances (Ok None) old new = ask_move_of old ≡ quiet new
AskAdvances (Ok (Some ask)) old new = AskEnds (step.Asked ask) old new
AskAdvances (Err NotYet) old new = AskEnds step.NotYet old new
AskAdvances (Err (Fault f)) old new = (ask_move_of old ≡ fails f) × (new ≡ old)
AskAdvances (Err NoMemory) old new = AskEnds step.NoMemory old new

abbrev pub AskShrinks : Result (Option Ask) Halt → Standing → Standing → Type 0
AskShrinks (Ok None) old new = work_left new < work_left old
AskShrinks _ old new = Unit {0}

-- after a refusal of features and after WAIT the end is waited for, after any other reply the next ask
abbrev pub after_reply : Control → Stage
after_reply (control.IdentMissingFeatures p) = Ended
after_reply (control.Wait p) = Ended
after_reply _ = Authed

abbrev pub Replies : Result (Unit {0}) OutOfMemory.NoMemory → Control → Writer → Writer → Type 0
Replies (Ok _) c old new = (new.standing ≡ record old.standing { stage = after_reply c }) × (new.out ≡ old.out ++ frame_text c)
Replies (Err _) c old new = new ≡ old
