-- What calls of a record leave of it. This project's own.
use Rattle.std.specs.Prelude.{◌≡◌, ◌⊎◌, ℕ, ◌+◌, ◌-◌, ◌^◌, ◌≤◌, ◌<◌, Bool, true, false, if◌then◌else◌, List, [], ◌∷◌, ◌++◌, Option, Some, None, IfSome, IsSome, Result, Ok, Err}
use Rattle.std.specs.List.{AllByRecursion}
use Rattle.std.specs.Option.{option_to_list}
use Rattle.m2_bytes.specs.declared.memory.NoMemory as memory
use Rattle.m2_core.specs.LiveNow as live
use Rattle.m2_core.specs.Effects.{closed_if}
use Rattle.m2_core.specs.OnFeed.{feed_after_news}
use Rattle.m2_core.specs.LiveCalls.{after_fault, after_posted, live_with}
use Rattle.m2_core.specs.Waits.{begun, not_above, stepped}
use Rattle.m2_core.specs.Asking.{HasAsked, LeavesAsk, LeavesPass}
use Rattle.m2_core.specs.Calls.{IsOpening, after_dial, after_down, after_opened, is_exhausted}
use Rattle.m2_core.specs.Composing.{HasAcknowledged, HasAnswered}
use Rattle.m2_core.specs.Counting.{CountsIf, to_count}
use Rattle.m2_core.specs.Moves.{HasWritten}
use Rattle.m2_core.specs.Numbering.{HasNumbered}
use Rattle.m2_core.specs.Shaken.{HasShaken}
use Rattle.m2_core.specs.declared.asking.CoreAsk.{CoreAsk}
use Rattle.m2_core.specs.declared.asking.CoreAsk.TheVariants as ask
use Rattle.m2_core.specs.declared.to_compose.CoreText.{CoreText}
use Rattle.m2_core.specs.declared.to_compose.CoreText.TheVariants as text
use Rattle.m2_dispatch.specs.declared.parcel.Parcel.{Parcel}
use Rattle.m2_dispatch.specs.declared.parcel.Parcel.TheVariants as parcel
use Rattle.m2_dispatch.specs.Parcel.{IsOwned}
use Rattle.m2_fabric.specs.declared.socket.SocketId.{SocketId}
use Rattle.m2_fabric.specs.End.{SeenEnd}
use Rattle.m2_fabric.specs.End as end
use Rattle.m2_fabric.specs.Port.{one_hears}
use Rattle.m2_fabric.specs.declared.end.News.{News}
use Rattle.m2_fabric.specs.Log.{Log, nothing_done}
use Rattle.m2_fabric.specs.Sockets.{IsNewTo, goes_to, same_socket}
use Rattle.m2_feed.specs.FeedNow.{FeedNow}
use Rattle.m2_feed.specs.declared.answers.FeedWrite.{FeedWrite}
use Rattle.m2_feed.specs.declared.answers.FeedWrite.TheVariants as put
use Rattle.m2_feed.specs.declared.wire_fault.WireFault.{WireFault}
use Rattle.m2_feed.specs.declared.wire_fault.WireFault.TheVariants as fault
use Rattle.m2_handshake.specs.declared.answer.HalfStep.{HalfStep}
use Rattle.m2_handshake.specs.declared.answer.HalfStep.TheVariants as half
use Rattle.m2_journal.specs.declared.entry.Entry.{Entry}
use Rattle.m2_journal.specs.declared.entry.Entry.TheVariants as entry
use Rattle.m2_journal.specs.declared.facts.PlanStep.{PlanStep}
use Rattle.m2_journal.specs.declared.facts.PlanStep.TheVariants as step
use Rattle.m2_journal.specs.Lawful.{OnFeed, is_broken}
use Rattle.m2_journal.specs.State.{State}
use Rattle.m2_dispatch.specs.m2_message.declared.message.Message.{Message}
use Rattle.m2_dispatch.specs.m2_message.Message.{content_of}
use Rattle.m2_session.specs.declared.event.Effects.{Effects}
use Rattle.m2_session.specs.declared.event.Event.TheVariants as event
use Rattle.m2_session.specs.Steps.{step_of}
use Rattle.m2_shared.specs.Numbers.{SeenNumberPass}
use Rattle.m2_shared.specs.Place.{Place}
use Rattle.m2_shared.specs.Gates.{AreHeld, Gate, Places, held}
use Rattle.m2_record.specs.declared.composing.Composed.{Composed}
use Rattle.m2_record.specs.declared.composing.Composed.TheVariants as composed
use Rattle.m2_record.specs.Due.{due_step, next_step, on_feed}
use Rattle.m2_record.specs.declared.due.Due.TheVariants as due
use Rattle.m2_record.specs.IsRecord.{IsReplayedTo, named_in}
use Rattle.m2_record.specs.RecordNow.{RecordNow, Rooms, ends_of, ids_of}
use Rattle.m2_record.specs.Sources.{is_broken_end}

-- ---- room

-- all but the room is the same
abbrev pub IsSameButRoom : RecordNow → RecordNow → Type 0
IsSameButRoom old new = new ≡ record old { room = new.room }

-- there is no less of it
pub record HasNoLess (old new : Rooms) : Type 0 where
  pub entries : old.entries ≤ new.entries
  pub parcels : old.parcels ≤ new.parcels
  pub ends : old.ends ≤ new.ends
  pub trails : old.trails ≤ new.trails

-- so many entries, and as many parcels, fit
pub record HasRoomFor (n : ℕ) (r : Rooms) : Type 0 where
  pub entries : n ≤ r.entries
  pub parcels : n ≤ r.parcels

-- a feed can be closed for a fault: its entry fits, and the two parcels of what that may hand out
pub record HasRoomToClose (r : Rooms) : Type 0 where
  pub entries : 0 < r.entries
  pub parcels : 2 ≤ r.parcels

-- a socket that is opened fits: its entry, and its end among those that were the feed
pub record FitsSocket (r : Rooms) : Type 0 where
  pub entries : 0 < r.entries
  pub ends : 0 < r.ends

-- ---- the plan

abbrev pub planned_too : PlanStep → RecordNow → RecordNow
planned_too x r = record r { plan = r.plan ++ x ∷ [] }

-- Ok: the step is the plan's last. Err: it comes back, and all is as before.
abbrev pub AddsStep : Result (Unit {0}) PlanStep → PlanStep → RecordNow → RecordNow → Type 0
AddsStep (Ok _) x old new = new ≡ planned_too x old
AddsStep (Err back) x old new = (back ≡ x) × (new ≡ old)

-- one entry less fits
abbrev pub with_entry : Rooms → Rooms
with_entry r = record r { entries = r.entries - 1 }

-- the message is queued, at this moment
abbrev pub after_post : Message → (now : ℕ) → RecordNow → RecordNow
after_post m now r = record r {
  core = record r.core { live = after_posted (content_of m) r.core.live };
  journal = r.journal ++ entry.Post r.steps ∷ [];
  steps = r.steps + 1;
  last = now;
  room = with_entry r.room;
}

abbrev pub with_dial : RecordNow → RecordNow
with_dial r = record r {
  core = after_dial r.core;
  journal = r.journal ++ entry.Dial ∷ [];
  steps = r.steps + 1;
  room = with_entry r.room;
}

-- the plan's next step is a post, and its message is queued
abbrev pub PostsNext : Option PlanStep → (now : ℕ) → RecordNow → RecordNow → Type 0
PostsNext (Some (step.Post m)) now old new = new ≡ after_post m now old
PostsNext _ now old new = ⊥

abbrev pub IsPostNext : Option PlanStep → Type 0
IsPostNext (Some (step.Post m)) = Unit {0}
IsPostNext _ = ⊥

abbrev pub IsDialNext : Option PlanStep → Type 0
IsDialNext (Some step.Dial) = Unit {0}
IsDialNext _ = ⊥

-- ---- what a session's step leaves of a record

-- the entry of a feed that was closed behind another entry
abbrev pub closed_entries : Option SeenEnd → List Entry
closed_entries (Some e) = entry.Closed e.id ∷ []
closed_entries None = []

abbrev pub one_if : Bool → Parcel → List Parcel
one_if true x = x ∷ []
one_if false x = []

-- what is handed out: a discard, and behind it a remote reset
abbrev pub told_parcels : (place : ℕ) → (discarded remote_reset : Bool) → List Parcel
told_parcels place discarded remote_reset = one_if discarded (parcel.Discard place) ++ one_if remote_reset (parcel.RemoteReset place)

-- The feed's end, where it was closed, is the last of those that were the feed, and its socket has its entry; what is
-- handed out is behind what is ready.
abbrev pub left_by : Effects → RecordNow → RecordNow
left_by e r = record r {
  journal = r.journal ++ closed_entries (closed_if e.close r.core.live.feed);
  spent = r.spent ++ option_to_list (closed_if e.close r.core.live.feed);
  parcels = r.parcels ++ told_parcels r.place e.discard e.remote_reset;
}

-- ---- the session is given up

abbrev pub with_down : (planned : Bool) → RecordNow → RecordNow
with_down planned r = record r { journal = r.journal ++ entry.Down planned ∷ []; steps = (if planned then r.steps + 1 else r.steps) }

abbrev pub after_going_down : (planned : Bool) → RecordNow → RecordNow
after_going_down planned r =
    record (left_by (step_of r.core.live.session event.MarkedDown).effects (with_down planned r)) { core = after_down r.core; held = false }

-- all but the room is as a Down leaves it
abbrev pub GoesDown : (planned : Bool) → RecordNow → RecordNow → Type 0
GoesDown planned old new = new ≡ record (after_going_down planned old) { room = new.room }

abbrev pub IsDownNext : Option PlanStep → Type 0
IsDownNext (Some step.Down) = Unit {0}
IsDownNext _ = ⊥

-- by the plan, or because a number that is needed is above the greatest
abbrev pub MayGoDown : (planned : Bool) → RecordNow → Type 0
MayGoDown true r = IsDownNext (next_step r)
MayGoDown false r = is_exhausted r.core ≡ true

-- ---- grants

-- all that it holds was granted by the throttles whose words lie there
pub record Owns (places : Places) (r : RecordNow) : Type 0 where
  pub feed : AreHeld places r.core.live.granted
  pub parcels : AllByRecursion (IsOwned places) r.parcels

-- there is room for an end that was closed, where there is one
abbrev pub FitsClosed : Option SeenEnd → (room : ℕ) → Type 0
FitsClosed (Some e) room = 0 < room
FitsClosed None room = Unit {0}

-- it took that room, and where there is none all of it is left
abbrev pub KeepsEnds : Option SeenEnd → (old new : ℕ) → Type 0
KeepsEnds (Some e) old new = new + 1 ≡ old
KeepsEnds None old new = new ≡ old

-- ---- a connect

-- an end that has done nothing
abbrev pub IsUntouched : Log → Type 0
IsUntouched l = l ≡ nothing_done

-- a connect is due: no step comes before it
abbrev pub ConnectIsDue : (now : ℕ) → RecordNow → Type 0
ConnectIsDue now r = due_step now r ≡ due.Connect r.waits.next_dial

-- a socket to the peer that no entry and no end of the record has
pub record IsNewSocket (r : RecordNow) (socket : SocketId) : Type 0 where
  pub leads : goes_to r.core.facts.peer socket ≡ true
  pub entries : IsNewTo (named_in r.journal) socket
  pub ends : IsNewTo (ids_of (ends_of r)) socket

-- the socket is the feed
abbrev pub with_opened : FeedNow → SocketId → RecordNow → RecordNow
with_opened v socket r = record r { core = after_opened v r.core; journal = r.journal ++ entry.Opened socket ∷ [] }

-- all but the room is as an Opened of this end leaves it
abbrev pub Connects : SeenEnd → RecordNow → RecordNow → Type 0
Connects end old new =
    IfSome new.core.live.feed (λ v. IsOpening old.core.facts end v × (new ≡ record (with_opened v end.id old) { room = new.room }))
    × IsSome new.core.live.feed

-- where an end wasn't taken it comes back, and all but the room is the same
abbrev pub ComesBack : {E : Type 0} → Result (Unit {0}) E → E → RecordNow → RecordNow → Type 0
ComesBack (Ok _) end old new = Unit {0}
ComesBack (Err back) end old new = (back ≡ end) × IsSameButRoom old new

-- ---- moving bytes

-- the entry of the bytes that were put, where some were
abbrev pub wrote_entries : FeedWrite → Option FeedNow → List Entry
wrote_entries (put.Put n acknowledged) (Some v) = entry.Wrote v.end.id n ∷ []
wrote_entries answer feed = []

abbrev pub entries_put : FeedWrite → SocketId → List Entry
entries_put (put.Put n acknowledged) socket = entry.Wrote socket n ∷ []
entries_put answer socket = []

-- an entry can count them
abbrev pub IsCounted : FeedWrite → Type 0
IsCounted (put.Put n acknowledged) = n < 2 ^ 32
IsCounted _ = Unit {0}

-- the moment of the last productive entry
abbrev pub moment_after : FeedWrite → (now last : ℕ) → ℕ
moment_after (put.Put n acknowledged) now last = now
moment_after answer now last = last

-- whether it is held then: what was blocked is, and what was put no more
abbrev pub held_after : FeedWrite → Bool → Bool
held_after (put.Put n acknowledged) held = false
held_after put.NotYet held = true
held_after _ held = held

-- the core has written its feed once, and where bytes were put they have their entry
pub record WritesFeedOnce (answer : FeedWrite) (now : ℕ) (old new : RecordNow) : Type 0 where
  pub core : HasWritten answer old.core new.core
  pub only : new ≡ record old {
    core = new.core;
    journal = old.journal ++ wrote_entries answer old.core.live.feed;
    last = moment_after answer now old.last;
    held = held_after answer old.held;
    room = new.room;
  }

-- how many entries fit then
abbrev pub room_put : FeedWrite → ℕ → ℕ
room_put (put.Put n acknowledged) room = room - 1
room_put answer room = room

-- a fault that a write finds: its end has failed
abbrev pub fault_put : FeedWrite → Option WireFault
fault_put put.Failed = Some fault.Failed
fault_put _ = None

-- ---- handing out

-- the first parcel that is ready goes; none exactly where none is
abbrev pub HandsOut : Option Parcel → RecordNow → RecordNow → Type 0
HandsOut (Some x) old new = (old.parcels ≡ x ∷ new.parcels) × (new ≡ record old { parcels = new.parcels; handed = old.handed + 1; room = new.room })
HandsOut None old new = (old.parcels ≡ []) × (new ≡ old)

-- ---- the plan's next step

-- by the step: a post is queued, where memory lasts; a dial is wanted; the session is given up; where no step is left
-- nothing changes
abbrev pub TakesNext : Option PlanStep → Result (Unit {0}) memory.NoMemory → (now : ℕ) → RecordNow → RecordNow → Type 0
TakesNext (Some (step.Post m)) (Ok _) now old new = new ≡ after_post m now old
TakesNext (Some (step.Post m)) (Err _) now old new = new ≡ old
TakesNext (Some step.Dial) (Ok _) now old new = new ≡ with_dial old
TakesNext (Some step.Down) (Ok _) now old new = GoesDown true old new
TakesNext None (Ok _) now old new = new ≡ old
TakesNext next (Err _) now old new = ⊥

abbrev pub is_down_next : Option PlanStep → Bool
is_down_next (Some step.Down) = true
is_down_next _ = false

-- what is given back then: where the session is given up, what is held for the feed
abbrev pub returned_by : Option PlanStep → RecordNow → Gate → ℕ
returned_by (Some step.Down) r gate = held r.core.live.granted gate
returned_by next r gate = 0

-- ---- a connect that failed

-- one more is missed, and a wait begins
abbrev pub after_missing : (now : ℕ) → RecordNow → RecordNow
after_missing now r = record r { missed = not_above (r.missed + 1); waits = begun r.core.facts.node now r.waits }

-- how much was granted for a parcel at a gate, and for all of them
abbrev pub granted_in : Parcel → Gate → ℕ
granted_in (parcel.Letter l) gate = held l.grants gate
granted_in (parcel.Discard peer) gate = 0
granted_in (parcel.RemoteReset peer) gate = 0

abbrev pub all_granted : List Parcel → Gate → ℕ
all_granted [] gate = 0
all_granted (x ∷ xs) gate = granted_in x gate + all_granted xs gate

-- how much it holds at a gate: for the MESSAGE that isn't finished, and for what is ready
abbrev pub all_held : RecordNow → Gate → ℕ
all_held r gate = held r.core.live.granted gate + all_granted r.parcels gate

-- ---- a fault

-- there is a feed whose end has failed, or has found that nothing more will come
abbrev pub EndIsBroken : RecordNow → Type 0
EndIsBroken r = live.OnFeedNow r.core.live.feed (λ v. is_broken_end v.end ≡ true)

-- the bytes that were got on the feed are a fault, where its journal leads
abbrev pub BytesAreBroken : RecordNow → Type 0
BytesAreBroken r = (s : State) → IsReplayedTo s r → OnFeed s (λ d. is_broken s d ≡ true)

-- one of the two
abbrev pub FeedIsBroken : RecordNow → Type 0
FeedIsBroken r = live.OnFeedNow r.core.live.feed (λ v. (is_broken_end v.end ≡ true) ⊎ BytesAreBroken r)

-- The feed is closed for a fault, which leaves what a session's step leaves. Where the phase becomes Wait, a wait begins.
abbrev pub after_breaking : (now : ℕ) → RecordNow → RecordNow
after_breaking now r =
    record (left_by (step_of r.core.live.session (event.Faulted (live.is_waiting r.core.live))).effects r) {
      core = record r.core { live = after_fault r.core.live };
      waits = stepped r.core.facts.node now r.core.live.session.phase (after_fault r.core.live).session.phase r.waits;
      held = false;
    }

-- all but the room is as a fault of the feed leaves it
abbrev pub Breaks : (now : ℕ) → RecordNow → RecordNow → Type 0
Breaks now old new = new ≡ record (after_breaking now old) { room = new.room }

-- where a fault is found the feed is broken
abbrev pub IsBrokenFor : Option WireFault → RecordNow → Type 0
IsBrokenFor (Some f) r = FeedIsBroken r
IsBrokenFor None r = Unit {0}

-- and there is room to close it
abbrev pub FitsClosing : Option WireFault → Rooms → Type 0
FitsClosing (Some f) r = HasRoomToClose r
FitsClosing None r = Unit {0}

-- no room is taken where a fault is found
abbrev pub KeepsRoomFor : Option WireFault → (old new : Rooms) → Type 0
KeepsRoomFor (Some f) old new = new ≡ old
KeepsRoomFor None old new = Unit {0}

-- for a fault the feed is closed, and else nothing more is done
abbrev pub ClosesFor : Option WireFault → (now : ℕ) → RecordNow → RecordNow → Type 0
ClosesFor (Some f) now mid new = Breaks now mid new
ClosesFor None now mid new = new ≡ mid

-- what is given back then: where the feed is closed, what is held for it
abbrev pub returned_for : Option WireFault → RecordNow → Gate → ℕ
returned_for (Some f) r gate = held r.core.live.granted gate
returned_for None r gate = 0

-- the feed's end is written once, and the feed is closed where that finds a fault
pub record Writes (answer : FeedWrite) (now : ℕ) (old new : RecordNow) : Type 0 where
  pub mid : RecordNow
  pub once : WritesFeedOnce answer now old mid
  pub closes : ClosesFor (fault_put answer) now mid new

-- ---- composing

abbrev pub numbered_entries : Result ℕ memory.NoMemory → List Entry
numbered_entries (Ok number) = entry.Numbered number ∷ []
numbered_entries (Err _) = []

abbrev pub asked_entries : CoreAsk → List Entry
asked_entries (ask.Asked by_ident number) = entry.Asked by_ident number ∷ []
asked_entries _ = []

-- the core changes, and the journal gets these entries
abbrev pub GetsEntries : List Entry → RecordNow → RecordNow → Type 0
GetsEntries entries old new = new ≡ record old { core = new.core; journal = old.journal ++ entries; room = new.room }

-- the core alone changes
abbrev pub ChangesCore : RecordNow → RecordNow → Type 0
ChangesCore old new = new ≡ record old { core = new.core; room = new.room }

abbrev pub NumbersNext : Result ℕ memory.NoMemory → RecordNow → RecordNow → Type 0
NumbersNext answer old new = HasNumbered answer old.core new.core × GetsEntries (numbered_entries answer) old new

abbrev pub Asks : CoreAsk → RecordNow → RecordNow → Type 0
Asks answer old new = HasAsked answer old.core new.core × LeavesAsk answer old.core new.core × GetsEntries (asked_entries answer) old new

abbrev pub Acknowledges : Result (Unit {0}) memory.NoMemory → RecordNow → RecordNow → Type 0
Acknowledges answer old new = HasAcknowledged answer old.core new.core × ChangesCore old new

abbrev pub AnswersKeepalive : Result (Unit {0}) memory.NoMemory → RecordNow → RecordNow → Type 0
AnswersKeepalive answer old new = HasAnswered answer old.core new.core × ChangesCore old new

abbrev pub Shakes : HalfStep → RecordNow → RecordNow → Type 0
Shakes answer old new = HasShaken answer old.core new.core × ChangesCore old new

-- a fault that the half finds is one of the feed
abbrev pub IsFaultOf : HalfStep → RecordNow → Type 0
IsFaultOf (half.Fault e) r = FeedIsBroken r
IsFaultOf _ r = Unit {0}

abbrev pub composed_ask : CoreAsk → Composed
composed_ask (ask.Asked by_ident number) = composed.Asked by_ident number
composed_ask ask.Spent = composed.Spent
composed_ask (ask.Again seen now) = composed.Again seen now
composed_ask ask.NoMemory = composed.NoMemory

abbrev pub composed_if : Result (Unit {0}) memory.NoMemory → Composed → Composed
composed_if (Ok _) c = c
composed_if (Err _) c = composed.NoMemory

-- by the text that is to be composed, and the answer
abbrev pub ComposesAs : CoreText → Composed → RecordNow → RecordNow → Type 0
ComposesAs text.Ask (composed.Asked by_ident number) old new = Asks (ask.Asked by_ident number) old new
ComposesAs text.Ask composed.Spent old new = Asks ask.Spent old new
ComposesAs text.Ask (composed.Again seen now) old new = Asks (ask.Again seen now) old new
ComposesAs text.Ask composed.NoMemory old new = Asks ask.NoMemory old new
ComposesAs text.KeepaliveAnswer composed.Answered old new = AnswersKeepalive (Ok tt) old new
ComposesAs text.KeepaliveAnswer composed.NoMemory old new = AnswersKeepalive (Err (record {})) old new
ComposesAs text.Message (composed.Numbered number) old new = NumbersNext (Ok number) old new
ComposesAs text.Message composed.NoMemory old new = NumbersNext (Err (record {})) old new
ComposesAs text.Acknowledgement composed.Acknowledged old new = Acknowledges (Ok tt) old new
ComposesAs text.Acknowledgement composed.NoMemory old new = Acknowledges (Err (record {})) old new
ComposesAs t _ old new = ⊥

-- what is left of the pass: the number of an ask was drawn by it
abbrev pub DrawsAs : Composed → Place → SeenNumberPass → SeenNumberPass → Type 0
DrawsAs (composed.Asked by_ident number) place before after = LeavesPass (ask.Asked by_ident number) place before after
DrawsAs composed.Spent place before after = LeavesPass ask.Spent place before after
DrawsAs (composed.Again seen now) place before after = LeavesPass (ask.Again seen now) place before after
DrawsAs _ place before after = after ≡ before

-- ---- what a resumption acknowledges

-- the entry of what is counted, where something is
abbrev pub acked_entries : Option ℕ → List Entry
acked_entries (Some number) = entry.Acked number ∷ []
acked_entries None = []

-- it is counted, where it is above what is counted already and was written
abbrev pub CountsResumption : RecordNow → RecordNow → Type 0
CountsResumption old new = CountsIf (to_count old.core.live) old.core new.core × GetsEntries (acked_entries (to_count old.core.live)) old new

-- ---- news of the other side

abbrev pub is_feed : SocketId → RecordNow → Bool
is_feed id r = on_feed (λ v. same_socket id v.end.id) r.core.live.feed

-- the end of that socket, where the record has it, has heard the news
abbrev pub after_news : SocketId → News → List ℕ → RecordNow → RecordNow
after_news id news bytes r =
    if is_feed id r then record r { core = record r.core { live = live_with (feed_after_news news bytes r.core.live.feed) r.core.live } }
    else record r { spent = one_hears id (end.after_news news bytes) r.spent }
