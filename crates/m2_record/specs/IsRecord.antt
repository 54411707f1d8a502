-- A record is the replay of its journal. This project's own.
use Rattle.std.specs.Prelude.{◌≡◌, ℕ, ◌<◌, ◌^◌, true, false, if◌then◌else◌, List, [], ◌++◌, length, map, Option, Some, None}
use Rattle.std.specs.List.{AllByRecursion, filter_map}
use Rattle.m2_shared.specs.Gates.{is_whole}
use Rattle.m2_shared.specs.declared.peer_type.PeerType.{PeerType}
use Rattle.m2_core.specs.LiveNow.{AreFor, OnFeedNow}
use Rattle.m2_core.specs.LiveNumbering.{FitsFrame}
use Rattle.m2_core.specs.Waits.{IsWithin, at_first}
use Rattle.m2_core.specs.Agrees.{Agrees}
use Rattle.m2_core.specs.CoreNow.{at_start}
use Rattle.m2_dispatch.specs.declared.parcel.Parcel.{Parcel}
use Rattle.m2_dispatch.specs.declared.parcel.Parcel.TheVariants as parcel
use Rattle.m2_fabric.specs.declared.socket.SocketId.{SocketId}
use Rattle.m2_fabric.specs.End.{SeenEnd}
use Rattle.m2_fabric.specs.Sockets.{IsNewTo}
use Rattle.m2_feed.specs.FeedNow.{FeedNow}
use Rattle.m2_journal.specs.declared.entry.Entry.{Entry}
use Rattle.m2_journal.specs.declared.entry.Entry.TheVariants as entry
use Rattle.m2_journal.specs.declared.facts.PlanStep.{PlanStep}
use Rattle.m2_journal.specs.declared.facts.PlanStep.TheVariants as step
use Rattle.m2_journal.specs.Items.{reach_of}
use Rattle.m2_journal.specs.Replay.{IsReplay}
use Rattle.m2_journal.specs.SideFacts.{SideFacts}
use Rattle.m2_journal.specs.State.{State}
use Rattle.m2_dispatch.specs.m2_message.Message.{IsSendable, size_of}
use Rattle.m2_dispatch.specs.m2_queues.OutQueues.{Queue}
use Rattle.m2_session.specs.SessionLaws.{takes}
use Rattle.m2_record.specs.RecordNow.{RecordNow, Rooms, delivery_of, ends_of, feed_end, ids_of, speaks_of}
use Rattle.m2_record.specs.TakenTrails.{HaveTrails}

-- ---- words

-- the sockets that an entry has closed
abbrev pub closed_by : Entry → Option SocketId
closed_by (entry.Closed socket) = Some socket
closed_by _ = None

abbrev pub closed_in : List Entry → List SocketId
closed_in journal = filter_map closed_by journal

-- the sockets that entries name
abbrev pub socket_of : Entry → Option SocketId
socket_of (entry.Opened socket) = Some socket
socket_of (entry.Read socket count) = Some socket
socket_of (entry.Wrote socket count) = Some socket
socket_of (entry.Closed socket) = Some socket
socket_of (entry.Judged socket ask number answer) = Some socket
socket_of _ = None

abbrev pub named_in : List Entry → List SocketId
named_in journal = filter_map socket_of journal

-- the sockets that became the feed: those that were opened, and those that were taken by an answer
abbrev pub became_feed : Entry → Option SocketId
became_feed (entry.Opened socket) = Some socket
became_feed (entry.Judged socket ask number answer) = if takes answer then Some socket else None
became_feed _ = None

abbrev pub feeds_in : List Entry → List SocketId
feeds_in journal = filter_map became_feed journal

-- those of a list behind the first n
abbrev pub AreBehind : {X : Type 0} → (n : ℕ) → List X → List X → Type 0
AreBehind {X} n last all = (before : List X) × (length before ≡ n) × (all ≡ before ++ last)

abbrev pub IsClosedEnd : SeenEnd → Type 0
IsClosedEnd e = e.log.closed ≡ true

-- the feed isn't one of those ends, and no entry has closed it
pub record IsOpenAmong (spent : List SeenEnd) (journal : List Entry) (socket : SocketId) : Type 0 where
  pub unspent : IsNewTo (ids_of spent) socket
  pub unclosed : IsNewTo (closed_in journal) socket

abbrev pub FeedIsOpen : List SeenEnd → List Entry → Option FeedNow → Type 0
FeedIsOpen spent journal (Some v) = IsOpenAmong spent journal v.end.id
FeedIsOpen spent journal None = Unit {0}

-- there is room for the feed's end among those that were the feed
abbrev pub FeedHasRoom : (ends : ℕ) → Option FeedNow → Type 0
FeedHasRoom ends (Some v) = 0 < ends
FeedHasRoom ends None = Unit {0}

-- ---- what holds beside its journal

-- a message that is to be posted can be sent
abbrev pub CanBePlanned : PlanStep → Type 0
CanBePlanned (step.Post m) = IsSendable m
CanBePlanned _ = Unit {0}

-- each message of a queue fits in a frame
pub record FitFrames (q : Queue) : Type 0 where
  pub kept : AllByRecursion FitsFrame q.kept
  pub waiting : AllByRecursion FitsFrame q.waiting

-- what is handed out comes from this peer, and for a message each stage has granted
abbrev pub IsFrom : (place : ℕ) → Parcel → Type 0
IsFrom place (parcel.Letter l) = (l.peer ≡ place) × (is_whole l.grants ≡ true) × AreFor (Some (size_of l.message)) l.grants
IsFrom place (parcel.Discard peer) = peer ≡ place
IsFrom place (parcel.RemoteReset peer) = peer ≡ place

-- the feed's end isn't closed
abbrev pub FeedIsWhole : Option FeedNow → Type 0
FeedIsWhole (Some v) = v.end.log.closed ≡ false
FeedIsWhole None = Unit {0}

-- Its ends are those of the sockets that became the feed, in order, the feed's last, which is open. Its parcels are of its
-- peer. What is planned or queued can be sent. Where it is held, the feed is blocked.
pub record IsWellKept (r : RecordNow) : Type 0 where
  pub ends : ids_of (r.spent ++ feed_end r.core.live.feed) ≡ feeds_in r.journal
  pub whole : FeedIsWhole r.core.live.feed
  pub parcels : AllByRecursion (IsFrom r.place) r.parcels
  pub plan : AllByRecursion CanBePlanned r.plan
  pub queue : FitFrames r.core.live.out.queue
  pub waits : IsWithin r.core.facts.node r.waits
  pub held : r.held ≡ true → OnFeedNow r.core.live.feed (λ v. v.end.log.blocked ≡ true)

-- ---- a record beside a state

-- Its entries are lawful one after the other, and cover the plan and the logs of its ends to the last byte. They lead to
-- this state, and there its core stands; so many steps of the plan were taken; its parcels are what is
-- handed out behind what was handed out before;
-- each end but the feed is closed, and the feed's has room among them.
pub record IsReplayedTo (s : State) (r : RecordNow) : Type 0 where
  pub replay : IsReplay r.core.facts (speaks_of r) r.journal s
  pub core : Agrees r.core s
  pub steps : r.steps ≡ s.steps
  pub reach : (reach_of r.journal).steps ≡ s.steps
  pub parcels : AreBehind r.handed (map delivery_of r.parcels) s.deliveries
  pub spent : AllByRecursion IsClosedEnd r.spent
  pub feed : FeedIsOpen r.spent r.journal r.core.live.feed
  pub room : FeedHasRoom r.room.ends r.core.live.feed
  pub few : length r.plan < 2 ^ 32

-- A record, of which each spent socket has its entry, and each taken one its trail.
pub record IsRecord (r : RecordNow) : Type 0 where
  pub state : State
  pub at_state : IsReplayedTo state r
  pub settled : state.spent ≡ []
  pub closed : closed_in r.journal ≡ ids_of r.spent
  pub trails : HaveTrails r.core.facts.node.entity (ends_of r) r.journal r.trails
  pub kept : IsWellKept r

-- ---- a new one

abbrev pub no_room : Rooms
no_room = record { entries = 0; parcels = 0; ends = 0; trails = 0 }

-- nothing planned, nothing done, towards a peer of this type
abbrev pub new_record : SideFacts → (place : ℕ) → PeerType → RecordNow
new_record f place peer = record {
  place = place;
  plan = [];
  steps = 0;
  journal = [];
  trails = [];
  core = at_start f peer;
  spent = [];
  parcels = [];
  handed = 0;
  waits = at_first f.node;
  held = false;
  missed = 0;
  last = 0;
  room = no_room;
}
