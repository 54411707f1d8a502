-- When each entry may come: one row for each kind. The rules of frames and asks are Ceph's ProtocolV2, with the profile of
-- docs/PROTOCOL.md.
use Rattle.std.specs.Prelude.{◌≡◌, ◌≢◌, ℕ, ◌+◌, ◌<◌, ◌≤◌, ◌⊎◌, ◌==◌, ◌&&◌, ◌||◌, not, Bool, true, false, nat_lt, if◌then◌else◌, List, [], ◌∷◌, ◌++◌, length, map, Option, Some, None}
use Rattle.std.specs.List.{list_any, filter, AllByRecursion}
use Rattle.std.specs.Option.{is_some, option_to_list}
use Rattle.m2_session.specs.declared.ask.AskFacts.{AskFacts}
use Rattle.m2_session.specs.Dials as dials
use Rattle.m2_handshake.specs.m2_control.declared.control.Control.TheVariants as control
use Rattle.m2_handshake.specs.m2_control.declared.fields.TheConstants.{GREATEST_NUMBER}
use Rattle.m2_fabric.specs.declared.socket.SocketId.{SocketId}
use Rattle.m2_fabric.specs.Sockets.{same_socket, is_among, goes_to}
use Rattle.m2_message.specs.m2_frame.Reading.{Front, bad, judge, size_of}
use Rattle.m2_handshake.specs.declared.stage.Stage.{Stage}
use Rattle.m2_handshake.specs.declared.stage.Stage.TheVariants.{Faulty}
use Rattle.m2_handshake.specs.Standing.{Standing}
use Rattle.m2_message.specs.Message.{Content}
use Rattle.m2_policy.specs.declared.path.Key.{Key}
use Rattle.m2_policy.specs.Path.{path_of}
use Rattle.m2_queues.specs.OutQueues.{next_number}
use Rattle.m2_session.specs.declared.answer.Answer.{Answer}
use Rattle.m2_session.specs.declared.answer.Answer.TheVariants as answer
use Rattle.m2_session.specs.declared.event.Event.TheVariants.{Dialled}
use Rattle.m2_session.specs.declared.session.Phase.{Phase}
use Rattle.m2_session.specs.declared.session.Phase.TheVariants.{Connecting, ReconnectSent, Ready}
use Rattle.m2_session.specs.declared.session.Session.{Session}
use Rattle.m2_session.specs.SessionLaws.{takes}
use Rattle.m2_session.specs.Phases as phase
use Rattle.m2_session.specs.Steps.{step_of}
use Rattle.m2_journal.specs.declared.entry.JudgedItem.{JudgedItem}
use Rattle.m2_journal.specs.Feeds.{answer_said, next_said, told, texts_at, narrowed}
use Rattle.m2_journal.specs.Items.{JournalItem, post, dial, opened, read, wrote, closed, judged, asked, numbered, accepted, acked, obeyed, down}
use Rattle.m2_journal.specs.Plan.{Planned, to_post, to_dial, to_go_down}
use Rattle.m2_journal.specs.Said.{Said, says, brings}
use Rattle.m2_journal.specs.SideFacts.{SideFacts}
use Rattle.m2_journal.specs.State.{Feed, Judgement, State}
use Rattle.m2_journal.specs.Steps.{answer_to, is_waiting}

-- ---- words

-- a global number that wasn't used
pub record IsUnused (s : State) (number : ℕ) : Type 0 where
  pub from : s.top < number
  pub to : number ≤ GREATEST_NUMBER

abbrev pub OnFeedAt : Option Feed → (Feed → Type 0) → Type 0
OnFeedAt (Some d) P = P d
OnFeedAt None P = ⊥

-- there is a feed, of which this holds
abbrev pub OnFeed : State → (Feed → Type 0) → Type 0
OnFeed s P = OnFeedAt s.feed P

abbrev pub IsFeed : State → SocketId → Type 0
IsFeed s socket = OnFeed s (λ d. same_socket socket d.socket ≡ true)

abbrev pub AreSome : List ℕ → Type 0
AreSome bytes = nat_lt 0 (length bytes) ≡ true

-- all that was composed is put
abbrev pub HasPutAll : Feed → Type 0
HasPutAll d = d.texts ≡ []

-- a record that is no server dials where it has something to write, where a dial is wanted, or where it has waited
abbrev pub may_dial : State → Bool
may_dial s = dials.dials s.session (is_waiting s) s.dials

-- ---- faults that the bytes on a feed show

-- The next text may not come in this phase, or is a gap. What may come before Ready was taken when it was read, but for a
-- reset, which may still be next, and a refusal of features, which stays next and is the fault.
abbrev pub is_refused : Phase → (last : ℕ) → Option Said → Bool
is_refused phase last None = false
is_refused ReconnectSent last (Some (says (control.SessionReset p))) = false
is_refused Ready last (Some (brings m)) = nat_lt (last + 1) m.header.seq
is_refused phase last (Some _) = true

abbrev pub said_next : State → Feed → Option Said
said_next s d = if phase.is s.session.phase Ready then next_said s.last d else answer_said d

abbrev pub is_bad : Front → Bool
is_bad (bad f) = true
is_bad _ = false

-- outside Ready no MESSAGE may come: where no whole text is next, its preamble shows it
abbrev pub begins_message : Option Said → List ℕ → Bool
begins_message None rest = is_some (size_of rest)
begins_message (Some x) rest = false

abbrev pub is_early_message : State → Feed → Bool
is_early_message s d = not (phase.is s.session.phase Ready) && begins_message (answer_said d) d.rest

abbrev pub is_faulty : Stage → Bool
is_faulty (Faulty f) = true
is_faulty _ = false

abbrev pub has_failed : Option Standing → Bool
has_failed (Some s) = is_faulty s.stage
has_failed None = false

-- more is acknowledged than was written
abbrev pub acknowledges_too_much : State → Feed → Bool
acknowledges_too_much s d = list_any (nat_lt s.out.queue.written) (told d)

abbrev pub is_broken : State → Feed → Bool
is_broken s d =
    has_failed d.hand || is_bad (judge d.rest) || is_refused s.session.phase s.last (said_next s d)
    || is_early_message s d || acknowledges_too_much s d

-- ---- numbers that are used up

-- the connect number of the next dial
abbrev pub dial_connect : Session → ℕ
dial_connect s = (step_of s Dialled).session.connect

abbrev pub where_so : Bool → ℕ → List ℕ
where_so true n = n ∷ []
where_so false n = []

-- the numbers that the record needs next: that of the next message, that of a dial which is due, that of the next ask
abbrev pub needed : State → List ℕ
needed s =
    option_to_list (next_number s.out.queue)
    ++ where_so (may_dial s) (dial_connect s.session)
    ++ where_so (phase.is s.session.phase Connecting) s.session.connect

abbrev pub is_exhausted : State → Bool
is_exhausted s = list_any (nat_lt GREATEST_NUMBER) (needed s)

-- ---- each kind

abbrev pub IsPost : Option Planned → Type 0
IsPost (Some (to_post m)) = Unit {0}
IsPost _ = ⊥

-- the plan's next step
abbrev pub MayPost : (place : ℕ) → Option Planned → State → Type 0
MayPost place planned s = (place ≡ s.steps) × IsPost planned

abbrev pub IsDial : Option Planned → Type 0
IsDial (Some to_dial) = Unit {0}
IsDial _ = ⊥

abbrev pub IsDown : Option Planned → Type 0
IsDown (Some to_go_down) = Unit {0}
IsDown _ = ⊥

-- by the plan, or because a number that is needed is above the greatest
abbrev pub MayGoDown : (planned : Bool) → Option Planned → State → Type 0
MayGoDown true step s = IsDown step
MayGoDown false step s = is_exhausted s ≡ true

abbrev pub judged_sockets : State → List SocketId
judged_sockets s = map (λ j. j.socket) s.judgements

-- a dial is due, and the socket is a new one to the peer
pub record MayOpen (f : SideFacts) (s : State) (socket : SocketId) : Type 0 where
  pub due : may_dial s ≡ true
  pub leads : goes_to f.peer socket ≡ true
  pub not_opened : is_among socket s.opened ≡ false
  pub not_judged : is_among socket (judged_sockets s) ≡ false
  pub fits : dial_connect s.session ≤ GREATEST_NUMBER

abbrev pub MayRead : State → SocketId → List ℕ → Type 0
MayRead s socket bytes = IsFeed s socket × AreSome bytes

-- some text that may be put goes on with these bytes
pub record GoesOn (f : SideFacts) (s : State) (bytes : List ℕ) (d : Feed) : Type 0 where
  pub some : AreSome bytes
  pub text : nat_lt 0 (length (narrowed bytes (texts_at f s d))) ≡ true

abbrev pub MayWrite : SideFacts → State → SocketId → List ℕ → Type 0
MayWrite f s socket bytes = IsFeed s socket × OnFeed s (GoesOn f s bytes)

-- the feed for a cause, a spent socket always
abbrev pub MayClose : State → SocketId → (broken : Bool) → Type 0
MayClose s socket broken =
    OnFeed s (λ d. (same_socket socket d.socket ≡ true) × ((broken || is_broken s d) ≡ true))
    ⊎ (is_among socket s.spent ≡ true)

-- what the record has judged on a socket
abbrev pub judged_on : SocketId → List Judgement → List JudgedItem
judged_on socket js = map (λ j. j.item) (filter (λ j. same_socket socket j.socket) js)

-- a half that is taken comes with just what was judged of it
abbrev pub IsOfTrail : (taken : Bool) → (before : List JudgedItem) → JudgedItem → (trail : List JudgedItem) → Type 0
IsOfTrail true before this trail = trail ≡ before ++ this ∷ []
IsOfTrail false before this trail = Unit {0}

-- the answers after which a half waits for another ask
abbrev pub may_ask_again : Answer → Bool
may_ask_again (answer.Reset full) = true
may_ask_again answer.ResetPending = true
may_ask_again (answer.Retry number) = true
may_ask_again (answer.RetryGlobal number) = true
may_ask_again _ = false

-- An ask that can be read: its numbers are at most the greatest, and a session that isn't lossy has a cookie.
pub record IsReadable (f : SideFacts) (a : AskFacts) : Type 0 where
  pub global : a.global ≤ GREATEST_NUMBER
  pub connect : a.connect ≤ GREATEST_NUMBER
  pub seen : a.seen ≤ GREATEST_NUMBER
  pub ident : a.ident ≡ true → (f.policy.lossy ≡ true) ⊎ (a.client ≢ 0)
  pub reconnect : a.ident ≡ false → (a.client ≢ 0) × (a.server ≢ 0)

-- An ask on a socket that is another's, on which no answer was the last: so it isn't the feed, nor spent, nor closed, since
-- each of these was opened or taken.
pub record MayJudge (f : SideFacts) (s : State) (socket : SocketId) (number : ℕ) (item : JudgedItem) (trail : List JudgedItem) : Type 0 where
  pub unused : IsUnused s number
  pub readable : IsReadable f item.ask
  pub by_the_tables : item.answer ≡ answer_to item.ask s
  pub not_opened : is_among socket s.opened ≡ false
  pub asks_again : AllByRecursion (λ i. may_ask_again i.answer ≡ true) (judged_on socket s.judgements)
  pub of_trail : IsOfTrail (takes item.answer) (judged_on socket s.judgements) item trail

-- both sides have signed, no whole text has come, and nothing is left to be put
pub record MayAsk (s : State) (ident : Bool) (number : ℕ) (d : Feed) : Type 0 where
  pub phase : s.session.phase ≡ Connecting
  pub signed : d.hand ≡ None
  pub heard_nothing : length d.got ≡ d.taken
  pub put : HasPutAll d
  pub of_kind : ident ≡ (s.session.server_cookie == 0)
  pub fits : s.session.connect ≤ GREATEST_NUMBER
  pub unused : IsUnused s number

pub record MayNumber (s : State) (number : ℕ) (d : Feed) : Type 0 where
  pub phase : s.session.phase ≡ Ready
  pub put : HasPutAll d
  pub next : next_number s.out.queue ≡ Some number
  pub fits : number ≤ GREATEST_NUMBER

abbrev pub key_of : SideFacts → Content → Key
key_of f m = record { priority = m.header.priority; path = path_of m.header.kind f.node.fast }

-- the next text is a message with the number after the last one, and this is its key at this node
abbrev pub IsNext : SideFacts → State → ℕ → Key → Option Said → Type 0
IsNext f s number key (Some (brings m)) = (number ≡ s.last + 1) × (m.header.seq ≡ number) × (key ≡ key_of f m)
IsNext f s number key _ = ⊥

pub record MayAccept (f : SideFacts) (s : State) (number : ℕ) (key : Key) (d : Feed) : Type 0 where
  pub phase : s.session.phase ≡ Ready
  pub next : IsNext f s number key (next_said s.last d)

-- some text that was got, or the ask that was resumed, acknowledges up to this number
pub record MayAcknowledge (s : State) (number : ℕ) (d : Feed) : Type 0 where
  pub phase : s.session.phase ≡ Ready
  pub told : list_any (λ n. n == number) (told d) ≡ true
  pub above : s.out.queue.base < number
  pub written : number ≤ s.out.queue.written

abbrev pub IsReset : (full : Bool) → Option Said → Type 0
IsReset full (Some (says (control.SessionReset p))) = p.full ≡ full
IsReset full _ = ⊥

pub record MayObey (s : State) (full : Bool) (d : Feed) : Type 0 where
  pub phase : s.session.phase ≡ ReconnectSent
  pub next : IsReset full (answer_said d)

abbrev pub Lawful : SideFacts → JournalItem → State → Type 0
Lawful f (post place planned) s = MayPost place planned s
Lawful f (dial planned) s = IsDial planned
Lawful f (opened socket) s = MayOpen f s socket
Lawful f (read socket bytes) s = MayRead s socket bytes
Lawful f (wrote socket bytes) s = MayWrite f s socket bytes
Lawful f (closed socket broken) s = MayClose s socket broken
Lawful f (judged socket ask number answer unread trail) s = MayJudge f s socket number (record { ask = ask; answer = answer }) trail
Lawful f (asked ident number) s = OnFeed s (MayAsk s ident number)
Lawful f (numbered number) s = OnFeed s (MayNumber s number)
Lawful f (accepted number key) s = OnFeed s (MayAccept f s number key)
Lawful f (acked number) s = OnFeed s (MayAcknowledge s number)
Lawful f (obeyed full) s = OnFeed s (MayObey s full)
Lawful f (down planned step) s = MayGoDown planned step s
