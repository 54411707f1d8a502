-- A half's whole course: what it writes, which asks it answers and where it comes to stand, by the bytes that it was
-- fed and the replies that it was given. The order of asks and replies is that of Ceph's msgr2 documentation.
use Rattle.std.specs.Prelude.{◌≡◌, ℕ, suc, ◌+◌, List, [], ◌∷◌, length}
use Rattle.std.specs.List.{flat_map}
use Rattle.m2_addr.specs.declared.addr.Addr.{Addr}
use Rattle.m2_control.specs.declared.control.Control.{Control}
use Rattle.m2_policy.specs.declared.rules.AuthPayload.{AuthPayload}
use Rattle.m2_handshake.specs.declared.ask.Ask.{Ask}
use Rattle.m2_handshake.specs.declared.fault.HalfFault.{HalfFault}
use Rattle.m2_handshake.specs.declared.stage.HalfSide.{HalfSide}
use Rattle.m2_handshake.specs.declared.stage.HalfSide.TheVariants.{Opener, Acceptor}
use Rattle.m2_handshake.specs.declared.stage.Stage.{Stage}
use Rattle.m2_handshake.specs.declared.stage.Stage.TheVariants.{Opening, Banner, Waits, Authed, Asked, Ended, Faulty}
use Rattle.m2_handshake.specs.Asking.{after_reply}
use Rattle.m2_handshake.specs.Half.{work_left}
use Rattle.m2_handshake.specs.Moves.{Move, stays, quiet, writes, signs, asks, fails, move_at, ask_move_at}
use Rattle.m2_handshake.specs.Standing.{Standing, fed, fallen, opener_at_start, acceptor_at_start}
use Rattle.m2_handshake.specs.Texts.{frame_text, IsReply}

-- ---- the next move of a course: one of the handshake until both sides have signed, and then one towards an ask

-- both sides have signed: an opener is done, and never asked
abbrev pub signed_move : HalfSide → Move → Move
signed_move Opener m = stays
signed_move Acceptor m = m

-- a fault is the end
abbrev pub course_move_at : Stage → Standing → Move
course_move_at Opening s = move_at Opening s
course_move_at Banner s = move_at Banner s
course_move_at (Waits awaited) s = move_at (Waits awaited) s
course_move_at Authed s = signed_move s.side (ask_move_at Authed s)
course_move_at Asked s = stays
course_move_at Ended s = signed_move s.side (ask_move_at Ended s)
course_move_at (Faulty f) s = stays

abbrev pub course_move : Standing → Move
course_move s = course_move_at s.stage s

-- ---- steps

-- what a step does: nothing that is seen; it writes a text; it answers an ask; it fails; it writes a reply that it
-- is given
pub data Event : Type 0 where
  silent : Event
  wrote : List ℕ → Event
  asked : Ask → Event
  failed : HalfFault → Event
  replied : Control → Event

-- what a half does by itself where it stands, and where that leads
pub data Step : Type 0 where
  rests : Step
  goes : Event → Standing → Step

abbrev pub step_by : Move → Standing → Step
step_by stays s = rests
step_by (quiet next) s = goes silent next
step_by (writes text next) s = goes (wrote text) next
step_by (signs next) s = goes silent next
step_by (asks ask next) s = goes (asked ask) next
step_by (fails f) s = goes (failed f) (fallen f s)

abbrev pub step_of : Standing → Step
step_of s = step_by (course_move s) s

-- no step goes on from there without more bytes or another reply
abbrev pub IsRested : Standing → Type 0
IsRested s = step_of s ≡ rests

-- where a reply leads
abbrev pub answered : Control → Standing → Standing
answered c s = record s { stage = after_reply c }

-- one step: a half's own, or a reply where one is owed
abbrev pub Goes : Standing → Event → Standing → Type 0
Goes a (replied c) b = (a.stage ≡ Asked) × IsReply c × (b ≡ answered c a)
Goes a e b = step_of a ≡ goes e b

-- steps one after the other
abbrev pub Runs : List Event → Standing → Standing → Type 0
Runs [] a b = a ≡ b
Runs (e ∷ es) a b = (mid : Standing) × Goes a e mid × Runs es mid b

-- ---- what events write, ask and reply, in order

abbrev pub text_in : Event → List ℕ
text_in (wrote text) = text
text_in (replied c) = frame_text c
text_in _ = []

abbrev pub asks_in : Event → List Ask
asks_in (asked ask) = ask ∷ []
asks_in _ = []

abbrev pub replies_in : Event → List Control
replies_in (replied c) = c ∷ []
replies_in _ = []

abbrev pub text_of : List Event → List ℕ
text_of = flat_map text_in

abbrev pub asks_of : List Event → List Ask
asks_of = flat_map asks_in

abbrev pub replies_of : List Event → List Control
replies_of = flat_map replies_in

-- ---- the course as a function, which computes

-- what a half does next that has these replies to give, and those that are left then; or it stops
pub data Next : Type 0 where
  stops : Next
  on : Event → Standing → List Control → Next

-- a reply is given only where it is owed
abbrev pub reply_at : Stage → Standing → List Control → Next
reply_at Asked s (c ∷ cs) = on (replied c) (answered c s) cs
reply_at _ s cs = stops

abbrev pub next_by : Step → Standing → List Control → Next
next_by (goes e next) s cs = on e next cs
next_by rests s cs = reply_at s.stage s cs

abbrev pub next_of : Standing → List Control → Next
next_of s cs = next_by (step_of s) s cs

-- what was done, and where it led
pub record Course : Type 0 where
  pub events : List Event
  pub standing : Standing

abbrev pub behind : Event → Course → Course
behind e c = record c { events = e ∷ c.events }

-- so many steps at most
abbrev pub course_by : ℕ → Next → Standing → Course
course_by (suc n) (on e next cs) s = behind e (course_by n (next_of next cs) next)
course_by _ _ s = record { events = []; standing = s }

-- how many of its own steps are left at most: before it fails one for each stage that is to come, and one for each
-- byte and for a frame in hand
abbrev pub stages_left : Stage → ℕ
stages_left Opening = 3
stages_left Banner = 2
stages_left (Faulty f) = 0
stages_left _ = 1

abbrev pub steps_left : Standing → ℕ
steps_left s = stages_left s.stage + work_left s

abbrev pub course_of : Standing → List Control → Course
course_of s cs = course_by (steps_left s + length cs) (next_of s cs) s

-- an opener that is fed these bytes, and an acceptor that is fed these and given these replies
abbrev pub opener_course : AuthPayload → ℕ → Addr → List ℕ → Course
opener_course auth entity dialled bytes = course_of (fed (opener_at_start auth entity dialled) bytes) []

abbrev pub acceptor_course : ℕ → Addr → List ℕ → List Control → Course
acceptor_course entity seen bytes replies = course_of (fed (acceptor_at_start entity seen) bytes) replies

-- ---- what a half has come to

-- since it began, a half was fed these bytes and given these replies, and has written this text and answered these asks
pub record Exchange : Type 0 where
  pub bytes : List ℕ
  pub replies : List Control
  pub text : List ℕ
  pub asks : List Ask

abbrev pub no_exchange : Exchange
no_exchange = record { bytes = []; replies = []; text = []; asks = [] }

-- from where it began, a half comes to a standing by such an exchange, as if all bytes had been there from the start
pub record Reaches (begin : Standing) (x : Exchange) (s : Standing) : Type 0 where
  pub events : List Event
  pub runs : Runs events (fed begin x.bytes) s
  pub replies : replies_of events ≡ x.replies
  pub text : text_of events ≡ x.text
  pub asks : asks_of events ≡ x.asks

-- by such an exchange it comes to this fault
abbrev pub ComesToFault : Standing → Exchange → HalfFault → Type 0
ComesToFault begin x f = (s : Standing) × Reaches begin x s × (s.stage ≡ Faulty f)

-- it comes so far, and then signs and stands there
abbrev pub Signs : Standing → Exchange → Standing → Type 0
Signs begin x s = (mid : Standing) × Reaches begin x mid × (course_move mid ≡ signs s)

-- how many replies are owed
abbrev pub owed : Stage → ℕ
owed Asked = 1
owed _ = 0
