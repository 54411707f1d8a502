-- What an order of two journals gives that fits: bytes are read after they were written, and an ask is judged after it
-- was sent.
use Rattle.std.specs.Prelude.{◌≡◌, ◌<◌, ◌≤◌, true, false, if◌then◌else◌, List, [], ◌∷◌, ◌++◌, map, Option, Some, None}
use Rattle.std.specs.List.{AllByRecursion}
use Rattle.m2_session.specs.declared.ask.AskFacts.{AskFacts}
use Rattle.m2_session.specs.Asks.{reconnect_of}
use Rattle.m2_session.specs.m2_control.declared.control.Control.TheVariants as control
use Rattle.m2_session.specs.m2_control.declared.fields.TheConstants.{GREATEST_NUMBER}
use Rattle.m2_journal.specs.m2_fabric.declared.socket.SocketId.{SocketId}
use Rattle.m2_journal.specs.m2_fabric.Sockets.{is_among}
use Rattle.m2_queues.specs.m2_frame.Reading.{Item}
use Rattle.m2_queues.specs.m2_message.Message.{with_numbers}
use Rattle.m2_journal.specs.Lawful.{judged_on, judged_sockets}
use Rattle.m2_journal.specs.OutFrames as out
use Rattle.m2_journal.specs.OutFrames.{OutFrame}
use Rattle.m2_journal.specs.Said.{Said, says, brings, garbles, said}
use Rattle.m2_journal.specs.State.{Feed, Judgement, SentFrame, State}
use Rattle.m2_never_reset.specs.Asks.{Ask, by_ident, by_reconnect}
use Rattle.m2_never_reset.specs.Frames.{asks_on, answers_on}

-- ---- what is read was sent

-- A text that was got says what was sent; a message comes with the two numbers with which it was sent. A SESSION_RETRY whose
-- number is above the greatest says nothing that is read.
abbrev pub Says : Said → OutFrame → Type 0
Says (brings m) (out.message number acked n) = m ≡ with_numbers number acked n
Says (says (control.Ack p)) (out.acknowledgement number) = p.seen ≡ number
Says (says (control.KeepaliveAck p)) (out.keepalive_answer k) = (p.seconds ≡ k.seconds) × (p.nanos ≡ k.nanos)
Says (says (control.ServerIdent i)) (out.server_ident cookie global) = (i.cookie ≡ cookie) × (i.global ≡ global)
Says (says (control.SessionReconnectOk p)) (out.reconnect_ok seen) = p.seen ≡ seen
Says (says (control.SessionReset p)) (out.reset full) = p.full ≡ full
Says (says (control.SessionRetry p)) (out.retry connect) = (p.connect ≡ connect) × (connect ≤ GREATEST_NUMBER)
Says garbles (out.retry connect) = GREATEST_NUMBER < connect
Says (says (control.SessionRetryGlobal p)) (out.retry_global global) = p.global ≡ global
Says (says (control.Wait p)) out.wait = Unit {0}
Says _ _ = ⊥

-- the one answer of a half that no entry judges
abbrev pub IsRefusal : Said → Type 0
IsRefusal (says (control.IdentMissingFeatures p)) = Unit {0}
IsRefusal _ = ⊥

-- What was got is a prefix of what was sent. Behind all of it there may be one refusal.
abbrev pub AreSaid : List Item → List OutFrame → Type 0
AreSaid [] ws = Unit {0}
AreSaid (i ∷ is) [] = IsRefusal (said i) × (is ≡ [])
AreSaid (i ∷ is) (w ∷ ws) = Says (said i) w × AreSaid is ws

abbrev pub HearsAt : Option Feed → (theirs : List SentFrame) → Type 0
HearsAt (Some d) theirs = AreSaid d.got (answers_on d.socket theirs)
HearsAt None theirs = Unit {0}

-- ---- what is judged was asked

abbrev pub ask_by : AskFacts → Ask
ask_by a = if a.ident then by_ident (record { cookie = a.client; global = a.global }) else by_reconnect (reconnect_of a)

-- the other side has opened the socket, and what was judged there are its first asks there, in order
pub record AreItsAsks (sockets : List SocketId) (theirs : List SentFrame) (js : List Judgement) (k : SocketId) : Type 0 where
  pub opened : is_among k sockets ≡ true
  pub more : List Ask
  pub first : asks_on k theirs ≡ map (λ i. ask_by i.ask) (judged_on k js) ++ more

pub record Fits (a b : State) : Type 0 where
  pub near_hears : HearsAt a.feed b.sent
  pub far_hears : HearsAt b.feed a.sent
  pub near_judges : AllByRecursion (AreItsAsks b.opened b.sent a.judgements) (judged_sockets a)
  pub far_judges : AllByRecursion (AreItsAsks a.opened a.sent b.judgements) (judged_sockets b)
  -- no socket is opened by both
  pub opened_apart : (k : SocketId) → is_among k a.opened ≡ true → is_among k b.opened ≡ false
