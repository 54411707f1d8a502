-- The laws of a half: it has one course, by the bytes that it was fed and the replies that it was given, and the same one
-- however the bytes were cut.
use Rattle.std.specs.Prelude.{◌≡◌, ◌≢◌, ℕ, ◌+◌, ◌≤◌, ◌<◌, true, false, ◌⊎◌, List, [], ◌∷◌, ◌++◌, length, Some, Ok}
use Rattle.m2_addr.specs.declared.fault.AddrFault.TheVariants as address
use Rattle.m2_control.specs.declared.control.Control.{Control}
use Rattle.m2_control.specs.declared.fault.ControlFault.TheVariants as control
use Rattle.m2_frame.specs.declared.encoding.TheConstants.{CRC_BYTES}
use Rattle.m2_frame.specs.declared.frame.TheConstants.{CONTROL_LIMIT}
use Rattle.m2_frame.specs.declared.preamble.Preamble.{Preamble}
use Rattle.m2_frame.specs.declared.preamble.TheConstants.{PREAMBLE_BYTES}
use Rattle.m2_frame.specs.Frame.{message_tag}
use Rattle.m2_frame.specs.Preamble.{IsPreamble}
use Rattle.m2_frame.specs.Reading.{size_of}
use Rattle.m2_handshake.specs.declared.answer.HalfStep.{HalfStep}
use Rattle.m2_handshake.specs.declared.answer.HalfStep.TheVariants as answer
use Rattle.m2_handshake.specs.declared.ask.AskStep.{AskStep}
use Rattle.m2_handshake.specs.declared.ask.AskStep.TheVariants as step
use Rattle.m2_handshake.specs.declared.fault.HalfFault.{HalfFault}
use Rattle.m2_handshake.specs.declared.fault.HalfFault.TheVariants as fault
use Rattle.m2_handshake.specs.declared.stage.HalfSide.TheVariants.{Opener}
use Rattle.m2_handshake.specs.declared.stage.Stage.{Stage}
use Rattle.m2_handshake.specs.declared.stage.Stage.TheVariants.{Asked, Faulty}
use Rattle.m2_handshake.specs.Asking.{AskAnswers, Replies, after_reply}
use Rattle.m2_handshake.specs.Asks.{bare_ask}
use Rattle.m2_handshake.specs.Course.{course_move, Event, Goes, Runs, IsRested, asks_of, replies_of, text_of, Course, course_of}
use Rattle.m2_handshake.specs.Course.{Exchange, no_exchange, Reaches, Signs, owed}
use Rattle.m2_handshake.specs.Half.{Answers, Writer}
use Rattle.m2_handshake.specs.Moves.{Move, stays, quiet, writes, signs, asks, fails, can_ask, is_at_rest, is_authed}
use Rattle.m2_handshake.specs.Standing.{Standing, awaits_frame, fed, grown}
use Rattle.m2_handshake.specs.Texts.{frame_text, IsReply}

-- a move, and then they are behind what it left unread
abbrev pub later : List ℕ → Move → Move
later more stays = stays
later more (quiet s) = quiet (grown more s)
later more (writes text s) = writes text (grown more s)
later more (signs s) = signs (grown more s)
later more (asks ask s) = asks ask (grown more s)
later more (fails f) = fails f

-- a half that moves does so whatever comes behind
abbrev pub Stays : (Standing → Move) → Type 0
Stays move = (s : Standing) (more : List ℕ) → move s ≢ stays → move (grown more s) ≡ later more (move s)

-- ---- the whole course

-- A half rests where it waits for bytes, where it owes a reply and where it has come to a fault, and an opener where
-- both sides have signed.
pub record RestsThere : Type 0 where
  pub waiting : (s : Standing) → course_move s ≡ stays → IsRested s
  pub owing : (s : Standing) → s.stage ≡ Asked → IsRested s
  pub failed : (f : HalfFault) (s : Standing) → s.stage ≡ Faulty f → IsRested s
  pub signed : (s : Standing) → s.side ≡ Opener → is_authed s.stage ≡ true → IsRested s

-- what was done to come to b is a prefix of what was done to come to c, and the rest leads from b to c
abbrev pub GoesOnTo : List Event → Standing → List Event → Standing → Type 0
GoesOnTo ds b es c = (more : List Event) × (es ≡ ds ++ more) × Runs more b c

-- What was done stays so as more is fed, and what then follows is done behind it. Of two courses from one standing the
-- one goes on to the other, where the replies of the one are a prefix of those of the other.
pub record GoesOneWay : Type 0 where
  pub fed : (es : List Event) (a b : Standing) (more : List ℕ) → Runs es a b → Runs es (fed a more) (fed b more)
  pub next : (es : List Event) (e : Event) (a b c : Standing) → Runs es a b → Goes b e c → Runs (es ++ e ∷ []) a c
  pub ways : (ds es : List Event) (a b c : Standing) (more : List Control) →
      Runs ds a b → Runs es a c → replies_of es ≡ replies_of ds ++ more → GoesOnTo ds b es c ⊎ GoesOnTo es c ds b

-- ---- 1. each call of a half leads on

-- the half has written this text behind, and what it has come to is told
abbrev pub WritesOn : Standing → Exchange → Writer → Writer → Type 0
WritesOn begin x old new = (text : List ℕ) × (new.out ≡ old.out ++ text) × Reaches begin (record x { text = x.text ++ text }) new.standing

-- what an ask adds to an exchange
abbrev pub with_ask : AskStep → Exchange → Exchange
with_ask (step.Asked ask) x = record x { asks = x.asks ++ bare_ask ask ∷ [] }
with_ask _ x = x

-- what a reply adds
abbrev pub with_reply : Control → Exchange → Exchange
with_reply c x = record x { replies = x.replies ++ c ∷ []; text = x.text ++ frame_text c }

-- Wherever a half has come to, each call leads on from there: by what is fed, by what `next` writes, by the ask that
-- `ask` answers and by the reply that is given.
pub record LeadsOn : Type 0 where
  pub begins : (s : Standing) → Reaches s no_exchange s
  pub feeds : (begin s : Standing) (x : Exchange) (more : List ℕ) → Reaches begin x s →
      Reaches begin (record x { bytes = x.bytes ++ more }) (fed s more)
  pub nexts : (result : HalfStep) (begin : Standing) (old new : Writer) (x : Exchange) →
      Reaches begin x old.standing → Answers result old new → WritesOn begin x old new
  pub asks : (result : AskStep) (begin old new : Standing) (x : Exchange) →
      Reaches begin x old → can_ask old ≡ true → AskAnswers result old new → Reaches begin (with_ask result x) new
  pub replies : (c : Control) (begin : Standing) (old new : Writer) (x : Exchange) →
      Reaches begin x old.standing → old.standing.stage ≡ Asked → IsReply c → Replies (Ok tt) c old new →
      Reaches begin (with_reply c x) new.standing

-- ---- 2. where a half rests is computed

-- this is the exchange of a course, and where it led
pub record IsCourse (c : Course) (x : Exchange) (s : Standing) : Type 0 where
  pub text : x.text ≡ text_of c.events
  pub asks : x.asks ≡ asks_of c.events
  pub standing : s ≡ c.standing

-- Where a half rests, what it has written, which asks it has answered and where it stands is the course that is
-- computed from its bytes and its replies: the same for every cutting.
abbrev pub RestsAtItsCourse : Type 0
RestsAtItsCourse = (begin s : Standing) (x : Exchange) → Reaches begin x s → IsRested s → IsCourse (course_of (fed begin x.bytes) x.replies) x s

-- An answer of NotYet leaves a half at rest, and one of Fault too.
pub record AnswersAtRest : Type 0 where
  pub next : (old new : Writer) → Answers answer.NotYet old new → IsRested new.standing
  pub next_fault : (f : HalfFault) (old new : Writer) → Answers (answer.Fault f) old new → IsRested new.standing
  pub ask : (old new : Standing) → can_ask old ≡ true → AskAnswers step.NotYet old new → IsRested new
  pub ask_fault : (f : HalfFault) (old new : Standing) → AskAnswers (step.Fault f) old new → IsRested new

-- A half that rests answers NotYet and stays as it is, and after that answer it rests.
pub record RestsExactly : Type 0 where
  pub next : (result : HalfStep) (old new : Writer) → can_ask old.standing ≡ false → is_at_rest old.standing ≡ true → Answers result old new →
      (result ≡ answer.NotYet) × (new ≡ old)
  pub after_next : (old new : Writer) → Answers answer.NotYet old new → is_at_rest new.standing ≡ true
  pub ask : (result : AskStep) (old new : Standing) → can_ask old ≡ true → is_at_rest old ≡ true → AskAnswers result old new →
      (result ≡ step.NotYet) × (new ≡ old)
  pub after_ask : (old new : Standing) → can_ask old ≡ true → AskAnswers step.NotYet old new → is_at_rest new ≡ true

-- ---- 3. a half signs once

-- By the same bytes and replies a half signs with the same text and at the same standing, and the text is the same
-- from then on, whether or not it was asked since.
pub record SignsOnce : Type 0 where
  pub signing : (begin : Standing) (old new : Writer) (x : Exchange) →
      Reaches begin x old.standing → is_authed old.standing.stage ≡ false → Answers answer.Authed old new → Signs begin x new.standing
  pub one : (begin s other : Standing) (x y : Exchange) → x.bytes ≡ y.bytes → x.replies ≡ y.replies →
      Signs begin x s → Signs begin y other → (x.text ≡ y.text) × (s ≡ other)
  pub signed : (begin s other : Standing) (x y : Exchange) → x.bytes ≡ y.bytes → x.replies ≡ y.replies →
      Reaches begin x s → is_authed s.stage ≡ true → Reaches begin y other → is_authed other.stage ≡ true → x.text ≡ y.text

-- ---- prefixes

-- the second list goes on from the first
abbrev pub IsPrefix : {A : Type 0} → List A → List A → Type 0
IsPrefix {A} xs ys = (more : List A) × (ys ≡ xs ++ more)

-- What a half writes and is asked by a prefix of its bytes and of its replies is a prefix of what it writes and is
-- asked by all of them, once it rests.
pub record IsAhead (x y : Exchange) : Type 0 where
  pub text : IsPrefix x.text y.text
  pub asks : IsPrefix x.asks y.asks

abbrev pub MoreWritesMore : Type 0
MoreWritesMore = (begin s other : Standing) (x y : Exchange) → Reaches begin x s → Reaches begin y other → IsRested other →
    IsPrefix x.bytes y.bytes → IsPrefix x.replies y.replies → IsAhead x y

-- what a half has used of what it was fed: the unread bytes are the end of it
pub record Used (begin : Standing) (x : Exchange) (s : Standing) : Type 0 where
  pub bytes : List ℕ
  pub before : begin.rest ++ x.bytes ≡ bytes ++ s.rest

-- What is unread is the end of what was fed, for every standing that is no fault; and what was used stays so as more
-- comes.
pub record UnreadIsTheEnd : Type 0 where
  pub used : (begin s : Standing) (x : Exchange) → Reaches begin x s → ((f : HalfFault) → s.stage ≢ Faulty f) → Used begin x s
  pub stays : (begin s : Standing) (x : Exchange) (more : List ℕ) → (u : Used begin x s) →
      (v : Used begin (record x { bytes = x.bytes ++ more }) (grown more s)) × (v.bytes ≡ u.bytes)

-- ---- asks and replies

-- At each point of a course that begins with no reply owed there are as many replies as asks, or one less: the n-th reply
-- is written after the n-th ask, and before the next one. In the end the one that lacks is owed, unless it failed. An
-- opener has neither asks nor replies.
pub record AsksBeforeReplies : Type 0 where
  pub points : (front back : List Event) (a b : Standing) → owed a.stage ≡ 0 → Runs (front ++ back) a b →
      (length (replies_of front) ≤ length (asks_of front)) × (length (asks_of front) ≤ 1 + length (replies_of front))
  pub ends : (begin s : Standing) (x : Exchange) → owed begin.stage ≡ 0 → Reaches begin x s →
      length x.asks ≡ length x.replies + owed s.stage
  pub opener : (begin s : Standing) (x : Exchange) → begin.side ≡ Opener → owed begin.stage ≡ 0 → Reaches begin x s →
      (x.asks ≡ []) × (x.replies ≡ [])

-- ---- want of memory

-- a fault that isn't want of memory
abbrev pub IsOfBytes : HalfFault → Type 0
IsOfBytes (fault.Control control.NoMemory) = ⊥
IsOfBytes (fault.Control (control.Address address.NoMemory)) = ⊥
IsOfBytes _ = Unit {0}

-- a half keeps no fault, or such a one
abbrev pub KeepsOfBytes : Stage → Type 0
KeepsOfBytes (Faulty f) = IsOfBytes f
KeepsOfBytes _ = Unit {0}

-- No fault that a half answers is want of memory, for it begins with none, and each call keeps it so: want of memory is
-- an answer of its own.
pub record TellsMemoryApart : Type 0 where
  pub feed : (s : Standing) (piece : List ℕ) → KeepsOfBytes s.stage → KeepsOfBytes (fed s piece).stage
  pub next : (result : HalfStep) (old new : Writer) →
      KeepsOfBytes old.standing.stage → Answers result old new → KeepsOfBytes new.standing.stage
  pub next_fault : (f : HalfFault) (old new : Writer) → KeepsOfBytes old.standing.stage → Answers (answer.Fault f) old new → IsOfBytes f
  pub ask : (result : AskStep) (old new : Standing) → KeepsOfBytes old.stage → AskAnswers result old new → KeepsOfBytes new.stage
  pub ask_fault : (f : HalfFault) (old new : Standing) → KeepsOfBytes old.stage → AskAnswers (step.Fault f) old new → IsOfBytes f
  pub reply : (c : Control) → KeepsOfBytes (after_reply c)

-- ---- a fault stays

-- a half that has answered a fault answers it again, and writes nothing more
pub record KeepsItsFault : Type 0 where
  pub next : (f : HalfFault) (result : HalfStep) (old new : Writer) → old.standing.stage ≡ Faulty f → Answers result old new →
      (result ≡ answer.Fault f) × (new.standing.stage ≡ Faulty f) × (new.out ≡ old.out)
  pub ask : (f : HalfFault) (result : AskStep) (old new : Standing) → old.stage ≡ Faulty f → AskAnswers result old new →
      (result ≡ step.Fault f) × (new.stage ≡ Faulty f)

-- ---- a MESSAGE

-- A half that reads a frame next answers Unexpected exactly where its unread bytes begin with the preamble of a MESSAGE,
-- whatever follows it. So it never waits for a MESSAGE's body.
pub record RefusesMessages : Type 0 where
  pub there : (s : Standing) (bytes more : List ℕ) (p : Preamble) → awaits_frame s ≡ true → IsPreamble bytes p → p.tag ≡ message_tag →
      s.rest ≡ bytes ++ more → course_move s ≡ fails (fault.Unexpected message_tag)
  pub only : (s : Standing) (tag : ℕ) → awaits_frame s ≡ true → course_move s ≡ fails (fault.Unexpected tag) →
      (tag ≡ message_tag) × (size : ℕ) × (size_of s.rest ≡ Some size)

-- A half that reads a frame next, and waits for more bytes, has fewer unread than the longest control frame has.
abbrev pub KeepsLittle : Type 0
KeepsLittle = (s : Standing) → awaits_frame s ≡ true → course_move s ≡ stays → length s.rest < PREAMBLE_BYTES + CONTROL_LIMIT + CRC_BYTES
