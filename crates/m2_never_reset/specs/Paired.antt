-- What where two journals lead has in common, besides what an order that fits gives.
use Rattle.std.specs.Prelude.{◌≡◌, ℕ, ◌+◌, ◌≤◌, ◌⊎◌, true, false, List, [], ◌∷◌, length, Option}
use Rattle.std.specs.List.{AllByRecursion}
use Rattle.m2_journal.specs.m2_fabric.declared.socket.SocketId.{SocketId}
use Rattle.m2_journal.specs.m2_fabric.Sockets.{same_socket, is_among}
use Rattle.m2_session.specs.declared.session.Phase.{Phase}
use Rattle.m2_session.specs.declared.session.Phase.TheVariants as phase
use Rattle.m2_journal.specs.Lawful.{judged_sockets}
use Rattle.m2_journal.specs.Laws.{IfFed}
use Rattle.m2_journal.specs.OutFrames as out
use Rattle.m2_journal.specs.OutFrames.{OutFrame}
use Rattle.m2_journal.specs.State.{Feed, SentFrame, State}
use Rattle.m2_never_reset.specs.Frames.{frames_on, asks_on, answers_on, to_come}
use Rattle.m2_never_reset.specs.LinkOf.{judged_count, is_unjudged}

-- ---- what is to come

-- what follows an acceptance: a message, an acknowledgement, or the answer to a keepalive
abbrev pub IsMail : OutFrame → Type 0
IsMail (out.message number acked m) = Unit {0}
IsMail (out.acknowledgement number) = Unit {0}
IsMail (out.keepalive_answer k) = Unit {0}
IsMail _ = ⊥

-- the answer to an ask, and what follows it: nothing follows a refusal
abbrev pub IsAnswered : List OutFrame → Type 0
IsAnswered [] = Unit {0}
IsAnswered (out.server_ident cookie global ∷ ws) = AllByRecursion IsMail ws
IsAnswered (out.reconnect_ok seen ∷ ws) = AllByRecursion IsMail ws
IsAnswered (out.reset full ∷ ws) = ws ≡ []
IsAnswered (out.retry connect ∷ ws) = ws ≡ []
IsAnswered (out.retry_global global ∷ ws) = ws ≡ []
IsAnswered (out.wait ∷ ws) = ws ≡ []
IsAnswered _ = ⊥

-- an acceptance is the first of it
abbrev pub BeginsAccepted : List OutFrame → Type 0
BeginsAccepted (out.server_ident cookie global ∷ ws) = Unit {0}
BeginsAccepted (out.reconnect_ok seen ∷ ws) = Unit {0}
BeginsAccepted _ = ⊥

-- what may be to come in a phase: nothing before an ask, its answer behind it, and mail in Ready
abbrev pub IsToCome : Phase → List OutFrame → Type 0
IsToCome phase.Connecting ws = ws ≡ []
IsToCome phase.IdentSent ws = IsAnswered ws
IsToCome phase.ReconnectSent ws = IsAnswered ws
IsToCome phase.Ready ws = AllByRecursion IsMail ws
IsToCome _ ws = Unit {0}

-- an acceptance has come, or is to come
abbrev pub IsAccepted : Phase → List OutFrame → Type 0
IsAccepted phase.Ready ws = Unit {0}
IsAccepted phase.IdentSent ws = BeginsAccepted ws
IsAccepted phase.ReconnectSent ws = BeginsAccepted ws
IsAccepted _ ws = ⊥

-- ---- what is being written

-- only what was accepted is acknowledged, and what no entry names is written in Ready alone
abbrev pub MayBeWritten : Phase → (last : ℕ) → OutFrame → Type 0
MayBeWritten p last (out.acknowledgement number) = (p ≡ phase.Ready) × (number ≤ last)
MayBeWritten p last (out.keepalive_answer k) = p ≡ phase.Ready
MayBeWritten p last _ = Unit {0}

-- ---- where a side stands

-- the side waits for the answer to its ask
abbrev pub HasAsked : Phase → Type 0
HasAsked phase.IdentSent = Unit {0}
HasAsked phase.ReconnectSent = Unit {0}
HasAsked _ = ⊥

-- ---- of one side, beside the other

-- What of both sides the facts of a feed speak of: its side's phase, its last accepted number, what it has sent; what
-- the other has sent, the sockets on which that has judged an ask, and its feed.
pub record Beside : Type 0 where
  pub phase : Phase
  pub last : ℕ
  pub mine : List SentFrame
  pub theirs : List SentFrame
  pub judged : List SocketId
  pub other : Option Feed

abbrev pub beside : State → State → Beside
beside a b = record {
  phase = a.session.phase;
  last = a.last;
  mine = a.sent;
  theirs = b.sent;
  judged = judged_sockets b;
  other = b.feed;
}

pub record FeedIsPaired (s : Beside) (d : Feed) : Type 0 where
  -- what was taken was got, and was sent
  pub got : d.taken ≤ length d.got
  pub sent : d.taken ≤ length (answers_on d.socket s.theirs)
  pub texts : AllByRecursion (λ t. MayBeWritten s.phase s.last t.frame) d.texts
  -- a socket that was taken is the feed in Ready alone
  pub taken : d.opened ≡ false → s.phase ≡ phase.Ready
  -- before Ready a side sends asks alone
  pub asks_alone : (s.phase ≡ phase.Ready) ⊎ (answers_on d.socket s.mine ≡ [])
  -- where its last ask isn't judged it waits for the answer, and nothing is to come
  pub unjudged : is_unjudged d.socket s.mine s.judged ≡ true → HasAsked s.phase × (to_come d s.theirs ≡ [])
  pub coming : IsToCome s.phase (to_come d s.theirs)
  -- where the other has taken the socket, its acceptance has come, or is to come
  pub accepted : d.opened ≡ true →
      IfFed s.other (λ e. same_socket e.socket d.socket ≡ true → IsAccepted s.phase (to_come d s.theirs))

pub record SideIsPaired (a b : State) : Type 0 where
  pub feed : IfFed a.feed (FeedIsPaired (beside a b))
  -- a side asks only on sockets that it opened, and sends only on those and where it judged
  pub asks : (k : SocketId) → is_among k a.opened ≡ false → asks_on k a.sent ≡ []
  pub sent : (k : SocketId) → is_among k a.opened ≡ false → is_among k (judged_sockets a) ≡ false →
      frames_on k a.sent ≡ []
  -- on a socket there is at most one ask more than was judged
  pub asks_once : (k : SocketId) → length (asks_on k a.sent) ≤ judged_count k (judged_sockets b) + 1
  -- and where there is one, nothing else was sent there
  pub unjudged : (k : SocketId) → is_unjudged k a.sent (judged_sockets b) ≡ true → answers_on k a.sent ≡ []

pub record Paired (a b : State) : Type 0 where
  pub near : SideIsPaired a b
  pub far : SideIsPaired b a
