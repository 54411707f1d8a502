-- A record composes a text: what each of the core's calls leaves of its feed's end, of its queue and of the state.
use Rattle.std.proofs.Common.{◌≡◌, ℕ, Bool, true, false, List, [], ◌++◌, Option, Some, None, map, Result, Ok, Err, inr, refl, sym, ap, subst, ◌∙◌}
use Rattle.std.specs.Prelude.{◌⊎◌}
use Rattle.std.specs.Prelude.{slice_get, nat_lt, if◌then◌else◌}
use Rattle.std.proofs.lemmas.List.{append-nil}
use Rattle.std.specs.List.{AllByRecursion}
use Rattle.m2_bytes.specs.declared.memory.NoMemory as memory
use Rattle.m2_core.specs.LiveNow.{OnFeedNow}
use Rattle.m2_core.specs.OnFeed.{AnswersStamp, ChangesRoom, ComposesAsk, ComposesFeed, ComposesMessage, GreetsFeed}
use Rattle.m2_core.specs.LiveNumbering.{FitsFrame, IsNextSendable}
use Rattle.m2_core.specs.Agrees.{Stays}
use Rattle.m2_core.specs.Asking.{HasAsked, LeavesAsk}
use Rattle.m2_core.specs.Composing.{HasAcknowledged, HasAnswered}
use Rattle.m2_core.specs.CoreNow.{CoreNow}
use Rattle.m2_core.specs.Numbering.{HasNumbered}
use Rattle.m2_core.specs.Shaken.{HasShaken}
use Rattle.m2_core.specs.declared.asking.CoreAsk.{CoreAsk}
use Rattle.m2_core.specs.declared.asking.CoreAsk.TheVariants as ask
use Rattle.m2_feed.specs.Calls.{ComposesIfOk}
use Rattle.m2_feed.specs.FeedNow.{FeedNow}
use Rattle.m2_feed.specs.declared.writing.Writing.{Writing}
use Rattle.m2_handshake.specs.declared.answer.HalfStep.{HalfStep}
use Rattle.m2_handshake.specs.declared.answer.HalfStep.TheVariants as half
use Rattle.m2_journal.specs.declared.entry.Entry.{Entry}
use Rattle.m2_journal.specs.declared.entry.Entry.TheVariants as entry
use Rattle.m2_journal.specs.Items as item
use Rattle.m2_journal.specs.Items.{items_of}
use Rattle.m2_journal.specs.Laws.{CanBePaid, IfFed}
use Rattle.m2_fabric.specs.End.{SeenEnd}
use Rattle.m2_journal.specs.Lawful.{OnFeed, is_broken}
use Rattle.m2_journal.specs.OutFrames.{OutFrame}
use Rattle.m2_journal.specs.Plan.{planned}
use Rattle.m2_journal.specs.Replay.{replay}
use Rattle.m2_journal.specs.SideFacts.{SideFacts, cookie_of}
use Rattle.m2_journal.specs.State.{Delivery, Feed, State}
use Rattle.m2_journal.specs.Steps as journal
use Rattle.m2_journal.specs.Steps.{after}
use Rattle.m2_journal.proofs.Paying.{can_be_paid}
use Rattle.m2_dispatch.specs.m2_message.Message.{Content}
use Rattle.m2_dispatch.specs.m2_queues.OutQueues.{Outgoing, Queue, after_next, message_at}
use Rattle.m2_dispatch.specs.m2_queues.QueueLaws.{Next}
use Rattle.m2_session.specs.declared.event.Event.TheVariants as event
use Rattle.m2_record.specs.Calls.{BytesAreBroken, IsFaultOf, asked_entries, numbered_entries}
use Rattle.m2_record.specs.Sources.{is_broken_end, sources_of}
use Rattle.m2_record.proofs.Keeping.{ground}
use Rattle.m2_record.specs.IsRecord.{FitFrames, IsRecord, IsReplayedTo}
use Rattle.m2_record.specs.RecordNow.{RecordNow, Rooms, speaks_of}
use Rattle.m2_record.proofs.Kept.{all-get, next-fits, sent-fits}
use Rattle.m2_record.proofs.Standing.{SameEnd, enters-record, same-feed_end, stands-record}
use Rattle.m2_record.proofs.Telling.{beside, tells-beside}

abbrev Memory : Type 0
Memory = Result (Unit {0}) memory.NoMemory

-- ---- the feed's end stays

same-room : (x y : Option FeedNow) → ChangesRoom x y → SameEnd x y
same-room (Some v) (Some w) h = ap (λ (z : FeedNow). z.end) h
same-room (Some v) None h = absurd h
same-room None y h = absurd h

same-ask : (bytes : List ℕ) (x y : Option FeedNow) → ComposesAsk bytes x y → SameEnd x y
same-ask bytes (Some v) (Some w) h = ap (λ (z : FeedNow). z.end) h
same-ask bytes (Some v) None h = absurd h
same-ask bytes None y h = absurd h

same-message : (number last : ℕ) (m : Content) (x y : Option FeedNow) → ComposesMessage number last m x y → SameEnd x y
same-message number last m (Some v) (Some w) h = ap (λ (z : FeedNow). z.end) h
same-message number last m (Some v) None h = absurd h
same-message number last m None y h = absurd h

same-if : (answer : Memory) (w : Writing) (bytes : List ℕ) (v z : FeedNow) → ComposesIfOk answer w bytes v z → z.end ≡ v.end
same-if (Ok u) w bytes v z h = ap (λ (q : FeedNow). q.end) h
same-if (Err e) w bytes v z h = ap (λ (q : FeedNow). q.end) h

same-composed : (answer : Memory) (w : Writing) (bytes : List ℕ) (x y : Option FeedNow) → ComposesFeed answer w bytes x y → SameEnd x y
same-composed answer w bytes (Some v) (Some z) h = same-if answer w bytes v z h
same-composed answer w bytes (Some v) None h = absurd h
same-composed answer w bytes None y h = absurd h

same-answered : (answer : Memory) (x y : Option FeedNow) → AnswersStamp answer x y → SameEnd x y
same-answered answer (Some v) (Some z) h = same-if answer _ _ v z h
same-answered answer (Some v) None h = absurd h
same-answered answer None y h = absurd h

same-greeted : (answer : HalfStep) (x y : Option FeedNow) → GreetsFeed answer x y → SameEnd x y
same-greeted half.Authed (Some v) (Some w) h = ap (λ (z : FeedNow). z.end) h.leaves
same-greeted half.NotYet (Some v) (Some w) h = ap (λ (z : FeedNow). z.end) h.leaves
same-greeted half.Wrote (Some v) (Some w) h = ap (λ (z : FeedNow). z.end) h.leaves
same-greeted (half.Fault e) (Some v) (Some w) h = ap (λ (z : FeedNow). z.end) h.leaves
same-greeted half.NoMemory (Some v) (Some w) h = ap (λ (z : FeedNow). z.end) h.leaves
same-greeted answer (Some v) None h = absurd h
same-greeted answer None y h = absurd h

-- ---- the next message fits in a frame

pub next_sendable : (r : RecordNow) → IsRecord r → IsNextSendable r.core.live.out.queue
next_sendable r h = record { fits = λ n m e at. found n m (after_next r.core.live.out.queue) (next-fits r.core.live.out.queue h.kept.queue) at }
  where
    get : (b : Bool) (n : ℕ) (m : Content) (kept : List Content) → AllByRecursion FitsFrame kept → (if b then slice_get kept n else None) ≡ Some m → FitsFrame m
    get true n m kept all at = all-get FitsFrame n kept m all at
    get false n m kept all at = absurd (subst (λ (o : Option Content). elim o as (λ _. Type 0) [ None ↦ Unit {0} | Some y ↦ ⊥ ]) at tt)

    found : (n : ℕ) (m : Content) (q : Queue) → FitFrames q → message_at q n ≡ Some m → FitsFrame m
    found n m q fits at = get (nat_lt q.base n) _ m q.kept fits.kept at

-- ---- what is left of a state

composing-on : (f : SideFacts) (w : OutFrame) (o : Option Feed) (s : State) → beside (journal.on_feed_at o (journal.composes_on f w) s) ≡ beside s
composing-on f w (Some d) s = refl
composing-on f w None s = refl

writing : (f : SideFacts) (number : ℕ) (m : Option Content) (s : State) → beside (journal.writes_message f number m s) ≡ beside s
writing f number (Some m) s = composing-on f _ s.feed s
writing f number None s = refl

numbering : (f : SideFacts) (number : ℕ) (s : State) → beside (after f (item.numbered number) s) ≡ beside s
numbering f number s = writing f number _ (journal.queues Next s)

asking : (f : SideFacts) (b : Bool) (number : ℕ) (s : State) → beside (after f (item.asked b number) s) ≡ beside s
asking f true number s = composing-on f _ (journal.tells (event.AskedIdent (cookie_of f number)) (record s { top = number })).feed _ ∙ tells-beside (event.AskedIdent (cookie_of f number)) (record s { top = number }) ∙ ap (λ (l : List Delivery). record (beside s) { deliveries = l }) (append-nil s.deliveries)
asking f false number s = composing-on f _ (journal.tells event.AskedReconnect (record s { top = number })).feed _ ∙ tells-beside event.AskedReconnect (record s { top = number }) ∙ ap (λ (l : List Delivery). record (beside s) { deliveries = l }) (append-nil s.deliveries)

-- ---- each call

module _ (r : RecordNow) (h : IsRecord r) (c : CoreNow) (room : Rooms) (ends : room.ends ≡ r.room.ends) where
  none-made : IsRecord (record r { core = c; room = room }) → IsRecord (record r { core = c; journal = r.journal ++ []; room = room })
  none-made k = subst (λ (l : List Entry). IsRecord (record r { core = c; journal = l; room = room })) (sym (append-nil r.journal)) k

  pub numbered : (answer : Result ℕ memory.NoMemory) → HasNumbered answer r.core c → IsRecord (record r { core = c; journal = r.journal ++ numbered_entries answer; room = room })
  numbered (Ok number) x = enters-record r c room (entry.Numbered number) (item.numbered number) h (ap (λ (z : CoreNow). z.facts) x.only) (same-message number r.core.live.last x.numbers.message r.core.live.feed c.live.feed x.numbers.composes) ends
      (subst (λ (o : Outgoing). FitFrames o.queue) (sym x.numbers.queue) (sent-fits (after_next r.core.live.out.queue) (next-fits r.core.live.out.queue h.kept.queue)))
      tt tt refl refl refl refl x.entry.0 x.entry.1 (λ s. numbering r.core.facts number s)
  numbered (Err e) x = none-made (stands-record r c room h (ap (λ (z : CoreNow). z.facts) x.only) (same-room r.core.live.feed c.live.feed x.numbers.1) ends
      (subst (λ (o : Outgoing). FitFrames o.queue) (sym x.numbers.0) h.kept.queue) (λ s a. x.entry s a.core))

  asked-not : ChangesRoom r.core.live.feed c.live.feed × (c ≡ record r.core { live = record r.core.live { feed = c.live.feed } }) → Stays r.core c → IsRecord (record r { core = c; journal = r.journal ++ []; room = room })
  asked-not x stays = none-made (stands-record r c room h (ap (λ (z : CoreNow). z.facts) x.1) (same-room r.core.live.feed c.live.feed x.0) ends
      (subst (λ (z : CoreNow). FitFrames z.live.out.queue) (sym x.1) h.kept.queue) (λ s a. stays s a.core))

  pub asked : (answer : CoreAsk) → HasAsked answer r.core c → LeavesAsk answer r.core c → IsRecord (record r { core = c; journal = r.journal ++ asked_entries answer; room = room })
  asked (ask.Asked b number) x y = enters-record r c room (entry.Asked b number) (item.asked b number) h (ap (λ (z : CoreNow). z.facts) y.only) (same-ask _ r.core.live.feed c.live.feed y.text) ends
      (subst (λ (z : CoreNow). FitFrames z.live.out.queue) (sym y.only) h.kept.queue)
      tt tt refl refl refl refl x.1 x.2 (λ s. asking r.core.facts b number s)
  asked ask.Spent x y = asked-not y x
  asked (ask.Again seen now) x y = asked-not y x
  asked ask.NoMemory x y = asked-not y x

  -- a text that no entry names
  pub answered : (answer : Memory) → HasAnswered answer r.core c → IsRecord (record r { core = c; room = room })
  answered answer x = stands-record r c room h (ap (λ (z : CoreNow). z.facts) x.only) (same-answered answer r.core.live.feed c.live.feed x.composes) ends
      (subst (λ (z : CoreNow). FitFrames z.live.out.queue) (sym x.only) h.kept.queue) (λ s a. x.stays s a.core)

  pub acknowledged : (answer : Memory) → HasAcknowledged answer r.core c → IsRecord (record r { core = c; room = room })
  acknowledged answer x = stands-record r c room h (ap (λ (z : CoreNow). z.facts) x.only) (same-composed answer _ _ r.core.live.feed c.live.feed x.composes) ends
      (subst (λ (z : CoreNow). FitFrames z.live.out.queue) (sym x.only) h.kept.queue) (λ s a. x.stays s a.core (paid s a))
    where
      paid : (s : State) → IsReplayedTo s r → IfFed s.feed (CanBePaid s)
      paid s a = subst (λ (t : State). IfFed t.feed (CanBePaid t)) (sym a.replay.state) (can_be_paid r.core.facts (items_of (speaks_of r) r.journal) a.replay.lawful)

  pub shaken : (answer : HalfStep) → HasShaken answer r.core c → IsRecord (record r { core = c; room = room })
  shaken answer x = stands-record r c room h (ap (λ (z : CoreNow). z.facts) x.only) (same-greeted answer r.core.live.feed c.live.feed x.greets) ends
      (subst (λ (z : CoreNow). FitFrames z.live.out.queue) (sym x.only) h.kept.queue) (λ s a. x.stays s a.core)

-- ---- as the code comes to them

pub numbered-after : (r : RecordNow) (c : CoreNow) (journal : List Entry) (room : Rooms) (answer : Result ℕ memory.NoMemory) → IsRecord r → room.ends ≡ r.room.ends → HasNumbered answer r.core c →
    journal ≡ r.journal ++ numbered_entries answer → IsRecord (record r { core = c; journal = journal; room = room })
numbered-after r c journal room answer h ends x j = rw j (numbered r h c room ends answer x)

pub asked-after : (r : RecordNow) (c : CoreNow) (journal : List Entry) (room : Rooms) (answer : CoreAsk) → IsRecord r → room.ends ≡ r.room.ends → HasAsked answer r.core c → LeavesAsk answer r.core c →
    journal ≡ r.journal ++ asked_entries answer → IsRecord (record r { core = c; journal = journal; room = room })
asked-after r c journal room answer h ends x y j = rw j (asked r h c room ends answer x y)

-- ---- a fault of the half, said of the record behind it

-- the record behind leads where the one before does
same-state : (r : RecordNow) (c : CoreNow) (room : Rooms) (s t : State) → c.facts ≡ r.core.facts → SameEnd r.core.live.feed c.live.feed → IsReplayedTo s r → IsReplayedTo t (record r { core = c; room = room }) → t ≡ s
same-state r c room s t facts same h k =
    k.replay.state
    ∙ ap (λ (l : List SeenEnd). replay c.facts (sources_of (ground (map planned r.plan) (l ++ r.spent) r.trails)) r.journal) (same-feed_end r.core.live.feed c.live.feed same)
    ∙ ap (λ (f : SideFacts). replay f (speaks_of r) r.journal) facts ∙ sym h.replay.state

on-fed : (o p : Option FeedNow) (A : Type 0) → SameEnd o p → OnFeedNow o (λ v. Unit {0}) → A → OnFeedNow p (λ v. (is_broken_end v.end ≡ true) ⊎ A)
on-fed (Some v) (Some w) A e h a = inr a
on-fed (Some v) None A e h a = absurd e
on-fed None p A e h a = absurd h

has-feed : (answer : HalfStep) (o p : Option FeedNow) → GreetsFeed answer o p → OnFeedNow o (λ v. Unit {0})
has-feed answer (Some v) p x = tt
has-feed answer None p x = absurd x

pub fault-then : (r : RecordNow) (c : CoreNow) (room : Rooms) (answer : HalfStep) → IsRecord r → HasShaken answer r.core c → IsFaultOf answer (record r { core = c; room = room })
fault-then r c room (half.Fault e) h x = on-fed r.core.live.feed c.live.feed (BytesAreBroken (record r { core = c; room = room })) same (has-feed (half.Fault e) r.core.live.feed c.live.feed x.greets)
    (λ t k. subst (λ (s : State). OnFeed s (λ d. is_broken s d ≡ true)) (sym (same-state r c room h.state t facts same h.at_state k)) (x.broken h.state h.at_state.core))
  where
    facts : c.facts ≡ r.core.facts
    facts = ap (λ (z : CoreNow). z.facts) x.only

    same : SameEnd r.core.live.feed c.live.feed
    same = same-greeted (half.Fault e) r.core.live.feed c.live.feed x.greets
fault-then r c room half.NotYet h x = tt
fault-then r c room half.Wrote h x = tt
fault-then r c room half.Authed h x = tt
fault-then r c room half.NoMemory h x = tt
