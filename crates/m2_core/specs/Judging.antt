-- What this side answers to an ask of its peer on a socket of the peer's, and what is known of such an answer. The tables are
-- those of the session (docs/PROTOCOL.md); the rest is this project's own.
use Rattle.std.specs.Prelude.{◌≡◌, ℕ, ◌<◌, ◌≤◌, true, false, if◌then◌else◌, List, Option, Some}
use Rattle.std.specs.List.{AllByRecursion}
use Rattle.m2_session.specs.declared.ask.AskFacts.{AskFacts}
use Rattle.m2_session.specs.declared.frame.Carried.{Carried}
use Rattle.m2_session.specs.Frames.{frame_of}
use Rattle.m2_control.specs.declared.control.Control.{Control}
use Rattle.m2_control.specs.declared.fields.TheConstants.{GREATEST_NUMBER}
use Rattle.m2_fabric.specs.declared.socket.SocketId.{SocketId}
use Rattle.m2_fabric.specs.Sockets.{is_among}
use Rattle.m2_journal.specs.declared.entry.JudgedItem.{JudgedItem}
use Rattle.m2_journal.specs.Items as item
use Rattle.m2_journal.specs.Items.{JournalItem}
use Rattle.m2_journal.specs.Laws.{SessionIsSound}
use Rattle.m2_journal.specs.Lawful.{IsOfTrail, IsReadable, Lawful, judged_on, may_ask_again}
use Rattle.m2_journal.specs.OutFrames as out
use Rattle.m2_journal.specs.OutFrames.{OutFrame}
use Rattle.m2_journal.specs.SideFacts.{SideFacts, cookie_of, speaker_of}
use Rattle.m2_journal.specs.State.{State}
use Rattle.m2_session.specs.declared.event.Event.{Event}
use Rattle.m2_session.specs.SessionLaws.{takes}
use Rattle.m2_core.specs.LiveNow.{LiveNow}
use Rattle.m2_core.specs.declared.verdict.Verdict.{Verdict}
use Rattle.m2_core.specs.Agrees.{Agrees}
use Rattle.m2_core.specs.Calls.{answer_to, event_of}
use Rattle.m2_core.specs.CoreNow.{CoreNow}

-- ---- when an ask may be judged

-- It can be read, the number wasn't used, and the session keeps the cookies of its policy, as that of every replay does.
pub record CanJudge (ask : AskFacts) (number : ℕ) (c : CoreNow) : Type 0 where
  pub readable : IsReadable c.facts ask
  pub from : c.top < number
  pub to : number ≤ GREATEST_NUMBER
  pub session : SessionIsSound c.facts c.live.session

-- and this is the answer by the tables
pub record IsVerdict (v : Verdict) (c : CoreNow) : Type 0 where
  pub can : CanJudge v.ask v.number c
  pub answer : v.answer ≡ answer_to v.ask c.live

abbrev pub verdict_on : AskFacts → (number : ℕ) → LiveNow → Verdict
verdict_on ask number l = record { ask = ask; number = number; answer = answer_to ask l }

-- ---- the entry

abbrev pub judgement_of : Verdict → JudgedItem
judgement_of v = record { ask = v.ask; answer = v.answer }

abbrev pub entry_of : Verdict → SocketId → (unread : List ℕ) → (trail : List JudgedItem) → JournalItem
entry_of v socket unread trail = item.judged socket v.ask v.number v.answer unread trail

-- the socket is another's, on which no answer was the last; and where it is taken, this is what was judged of it
pub record IsAsking (v : Verdict) (socket : SocketId) (trail : List JudgedItem) (s : State) : Type 0 where
  pub not_opened : is_among socket s.opened ≡ false
  pub asks_again : AllByRecursion (λ (i : JudgedItem). may_ask_again i.answer ≡ true) (judged_on socket s.judgements)
  pub of_trail : IsOfTrail (takes v.answer) (judged_on socket s.judgements) (judgement_of v) trail

-- the entry is lawful on each such socket, wherever the core agrees
abbrev pub MayBeJudged : Verdict → CoreNow → Type 0
MayBeJudged v c = (socket : SocketId) (unread : List ℕ) (trail : List JudgedItem) (s : State) → Agrees c s → IsAsking v socket trail s →
    Lawful c.facts (entry_of v socket unread trail) s

-- ---- what is told and written

-- what the session is told of its answer
abbrev pub told_of : SideFacts → Verdict → Option Event
told_of f v = event_of f v.ask v.number v.answer

-- The frame of an answer that takes the socket: a SERVER_IDENT with the cookie that is drawn with the number, or of a
-- resumption the last accepted number.
abbrev pub acceptance_of : SideFacts → Verdict → (last : ℕ) → OutFrame
acceptance_of f v last = if v.ask.ident then out.server_ident (cookie_of f v.number) v.number else out.reconnect_ok last

abbrev pub acceptance_text : SideFacts → Verdict → (last : ℕ) → List ℕ
acceptance_text f v last = out.text_of f (acceptance_of f v last)

-- the numbers that a frame of an answer carries
abbrev pub carried_by : SideFacts → Verdict → (last : ℕ) → Carried
carried_by f v last = record { cookie = cookie_of f v.number; global = v.number; last = last }

-- this is the payload of the frame of the answer
abbrev pub IsAnswerFrame : SideFacts → Verdict → (last : ℕ) → Control → Type 0
IsAnswerFrame f v last c = frame_of (speaker_of f) (carried_by f v last) v.answer ≡ Some c
