-- What an entry of a lossy side changes of what matters to the messages of its link: one of eleven moves.
use Rattle.std.proofs.Common.{◌≡◌, ℕ, ◌+◌, max, Bool, true, false, if◌then◌else◌, List, [], ◌∷◌, ◌++◌, drop, map, Option, Some, None}
use Rattle.std.specs.List.{AllByRecursion}
use Rattle.m2_channel.specs.Channel.{KeyedMessage}
use Rattle.m2_channel.specs.Observed.{handed}
use Rattle.m2_journal.specs.m2_fabric.declared.socket.SocketId.{SocketId}
use Rattle.m2_journal.specs.m2_fabric.Sockets.{is_among}
use Rattle.m2_journal.specs.declared.entry.JudgedItem.{JudgedItem}
use Rattle.m2_journal.specs.Lawful.{key_of}
use Rattle.m2_journal.specs.Laws.{taken_among}
use Rattle.m2_journal.specs.OutFrames as out
use Rattle.m2_journal.specs.OutFrames.{OutFrame}
use Rattle.m2_journal.specs.SideFacts.{SideFacts}
use Rattle.m2_journal.specs.State.{Feed, Judgement, SentFrame, State}
use Rattle.m2_journal.specs.m2_message.Message.{Content, unnumbered}
use Rattle.m2_never_reset.specs.Frames.{answers_on}
use Rattle.m2_journal.specs.m2_queues.OutQueues.{Queue, after_discard, after_post, after_renumber, after_requeue}
use Rattle.m2_journal.specs.m2_session.SessionLaws.{takes}
use Rattle.m2_journal.specs.m2_session.declared.session.Phase.{Phase}
use Rattle.m2_journal.specs.m2_session.declared.session.Phase.TheVariants as phase
use Rattle.m2_channel.proofs.Frames.{IsMute}

-- ---- what matters

-- the feed by its name
pub record Spot : Type 0 where
  pub socket : SocketId
  pub opened : Bool

pub record View : Type 0 where
  pub phase : Phase
  pub cookie : ℕ
  pub feed : Option Spot
  pub sent : List SentFrame
  pub opened : List SocketId
  pub judgements : List Judgement
  pub queue : Queue
  pub last : ℕ
  pub accepted : List KeyedMessage

abbrev pub spot_of : Option Feed → Option Spot
spot_of (Some d) = Some (record { socket = d.socket; opened = d.opened })
spot_of None = None

abbrev pub view : State → View
view s = record {
  phase = s.session.phase;
  cookie = s.session.server_cookie;
  feed = spot_of s.feed;
  sent = s.sent;
  opened = s.opened;
  judgements = s.judgements;
  queue = s.out.queue;
  last = s.last;
  accepted = handed s.deliveries;
}

-- ---- the moves

pub data Move : Type 0 where
  rests : Move
  posts : Content → Move
  opens : SocketId → Move
  -- the feed is left, and where that throws messages away nothing waits any more
  leaves : Phase → (thrown : Bool) → Move
  -- the side is marked down
  gives_up : Move
  -- an ask is judged and not accepted
  refuses : SocketId → List OutFrame → JudgedItem → Move
  -- an ask is accepted, by this frame
  takes_on : SocketId → (cookie global : ℕ) → JudgedItem → Move
  asks : (cookie global : ℕ) → Move
  -- an acceptance was read
  settles : (cookie : ℕ) → Move
  numbers : (number : ℕ) → Content → Move
  accepts : KeyedMessage → Move

abbrev pub sent_on : Option Spot → OutFrame → List SentFrame
sent_on (Some p) w = record { socket = p.socket; frame = w } ∷ []
sent_on None w = []

abbrev pub on_socket : SocketId → List OutFrame → List SentFrame
on_socket k [] = []
on_socket k (w ∷ ws) = record { socket = k; frame = w } ∷ on_socket k ws

abbrev pub judgement : SocketId → JudgedItem → Judgement
judgement k item = record { socket = k; item = item }

-- the first that waits has got a number and is gone
abbrev pub sent_first : Queue → Queue
sent_first q = record q { written = max q.written (q.base + 1); base = q.base + 1; waiting = drop 1 q.waiting }

abbrev pub thrown_away : Bool → Queue → Queue
thrown_away thrown q = if thrown then after_discard (after_requeue q) else after_requeue q

abbrev pub moved : Move → View → View
moved rests v = v
moved (posts m) v = record v { queue = after_post v.queue m }
moved (opens k) v = record v { phase = phase.Connecting; feed = Some (record { socket = k; opened = true }); opened = v.opened ++ k ∷ [] }
moved (leaves p thrown) v = record v { phase = p; cookie = (if thrown then 0 else v.cookie); feed = None; queue = thrown_away thrown v.queue }
moved gives_up v = record v { phase = phase.Absent; cookie = 0; feed = None; queue = thrown_away true v.queue; last = 0 }
moved (refuses k ws item) v = record v { judgements = v.judgements ++ judgement k item ∷ []; sent = v.sent ++ on_socket k ws }
moved (takes_on k cookie global item) v = record v {
  phase = phase.Ready;
  cookie = cookie;
  feed = Some (record { socket = k; opened = false });
  judgements = v.judgements ++ judgement k item ∷ [];
  sent = v.sent ++ record { socket = k; frame = out.server_ident cookie global } ∷ [];
  queue = after_renumber (after_requeue v.queue);
  last = 0;
}
moved (asks c g) v = record v { phase = phase.IdentSent; sent = v.sent ++ sent_on v.feed (out.ident c g) }
moved (settles cookie) v = record v { phase = phase.Ready; cookie = cookie; queue = after_renumber v.queue; last = 0 }
moved (numbers n m) v = record v { sent = v.sent ++ sent_on v.feed (out.message n v.last m); queue = sent_first v.queue }
moved (accepts x) v = record v { last = v.last + 1; accepted = v.accepted ++ x ∷ [] }

-- what it posts
abbrev pub posted_by : Move → List Content
posted_by (posts m) = m ∷ []
posted_by _ = []

-- ---- when each may come

-- the next message of the other side that has sent these frames, on this socket
pub record IsBrought (theirs : List SentFrame) (p : Spot) (last : ℕ) (x : KeyedMessage) : Type 0 where
  pub place : ℕ
  pub acked : ℕ
  pub content : Content
  pub more : List OutFrame
  pub first : drop place (answers_on p.socket theirs) ≡ out.message (last + 1) acked content ∷ more
  pub same : x.message ≡ unnumbered content

abbrev pub OnSpot : Option Spot → (Spot → Type 0) → Type 0
OnSpot (Some p) P = P p
OnSpot None P = ⊥

abbrev pub IfSpot : Option Spot → (Spot → Type 0) → Type 0
IfSpot (Some p) P = P p
IfSpot None P = Unit {0}

abbrev pub IsAway : Phase → Type 0
IsAway phase.Absent = Unit {0}
IsAway phase.Wait = Unit {0}
IsAway _ = ⊥

-- a fault throws away; what a refused ident leaves stays
abbrev pub LeavesSo : (thrown : Bool) → Phase → Type 0
LeavesSo true p = Unit {0}
LeavesSo false p = p ≡ phase.IdentSent

pub record MayOpen (f : SideFacts) (v : View) (k : SocketId) : Type 0 where
  pub client : f.policy.server ≡ false
  pub away : IsAway v.phase
  pub not_opened : is_among k v.opened ≡ false
  pub not_judged : is_among k (map (λ (j : Judgement). j.socket) v.judgements) ≡ false

pub record MayRefuse (v : View) (k : SocketId) (ws : List OutFrame) (item : JudgedItem) : Type 0 where
  pub not_opened : is_among k v.opened ≡ false
  pub mute : AllByRecursion IsMute ws
  pub refused : takes item.answer ≡ false

pub record MayTake (v : View) (k : SocketId) (item : JudgedItem) : Type 0 where
  pub not_opened : is_among k v.opened ≡ false
  pub not_taken : is_among k (taken_among v.judgements) ≡ false
  pub taken : takes item.answer ≡ true

pub record MayNumber (v : View) (n : ℕ) (m : Content) : Type 0 where
  pub phase : v.phase ≡ phase.Ready
  pub next : n ≡ v.queue.base + 1
  pub first : v.queue.waiting ≡ m ∷ drop 1 v.queue.waiting

pub record MayAccept (f : SideFacts) (theirs : List SentFrame) (v : View) (x : KeyedMessage) : Type 0 where
  pub phase : v.phase ≡ phase.Ready
  pub key : x.key ≡ key_of f x.message
  pub brought : OnSpot v.feed (λ p. IsBrought theirs p v.last x)

abbrev pub May : SideFacts → (theirs : List SentFrame) → Move → View → Type 0
May f theirs rests v = Unit {0}
May f theirs (posts m) v = Unit {0}
May f theirs (opens k) v = MayOpen f v k
May f theirs (leaves p thrown) v = IsAway p × LeavesSo thrown v.phase
May f theirs gives_up v = Unit {0}
May f theirs (refuses k ws item) v = MayRefuse v k ws item
May f theirs (takes_on k cookie global item) v = MayTake v k item
May f theirs (asks c g) v = v.phase ≡ phase.Connecting
May f theirs (settles cookie) v = v.phase ≡ phase.IdentSent
May f theirs (numbers n m) v = MayNumber v n m
May f theirs (accepts x) v = MayAccept f theirs v x
