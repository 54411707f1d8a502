-- Each call of a feed, with the step of the replay that belongs to it, keeps the feed beside its replay; and what the code
-- finds at the front is what the replay says is next.
use Rattle.std.specs.Prelude.{◌≡◌, ◌≢◌, ℕ, ◌+◌, ◌<◌, ◌≤◌, ◌==◌, ◌&&◌, not, Bool, true, false, nat_lt, List, [], ◌∷◌, ◌++◌, length, take, Option, Some, None, Ok}
use Rattle.std.specs.List.{list_any}
use Rattle.std.specs.Option.{option_to_list}
use Rattle.m2_fabric.specs.End.{SeenEnd}
use Rattle.m2_fabric.specs.declared.end.EndRead.{EndRead}
use Rattle.m2_fabric.specs.declared.end.EndRead.TheVariants as read
use Rattle.m2_frame.specs.declared.fault.FrameFault.{FrameFault}
use Rattle.m2_frame.specs.Reading.{Item}
use Rattle.m2_handshake.specs.declared.answer.HalfStep.{HalfStep}
use Rattle.m2_handshake.specs.declared.answer.HalfStep.TheVariants as half
use Rattle.m2_handshake.specs.declared.fault.HalfFault.{HalfFault}
use Rattle.m2_journal.specs.Feeds.{hears, opened_feed, taken_feed, answer_said, is_passed, next_place, next_said, stamp_of, told, told_by, begun}
use Rattle.m2_journal.specs.Lawful.{GoesOn, HasPutAll, has_failed, is_broken, is_refused, said_next}
use Rattle.m2_journal.specs.OutFrames as out
use Rattle.m2_journal.specs.OutFrames.{OutFrame, is_unnamed, acknowledges}
use Rattle.m2_journal.specs.Said.{said}
use Rattle.m2_journal.specs.SideFacts.{SideFacts, opener_half}
use Rattle.m2_journal.specs.State.{Feed, State}
use Rattle.m2_journal.specs.Steps.{takes_answer, puts}
use Rattle.m2_addr.specs.declared.addr.AnyAddr.TheVariants.{V4}
use Rattle.m2_control.specs.Control as payload
use Rattle.m2_control.specs.declared.control.Control.{Control}
use Rattle.m2_control.specs.declared.control.Control.TheVariants as control
use Rattle.m2_control.specs.declared.keepalive.Keepalive.{Keepalive}
use Rattle.m2_feed.specs.declared.composing.TheConstants.{IDENT_BYTES, RECONNECT_BYTES}
use Rattle.m2_feed.specs.declared.writing.Writing.TheVariants as writing
use Rattle.m2_feed.specs.declared.answers.FeedWrite.{FeedWrite}
use Rattle.m2_feed.specs.declared.answers.FeedWrite.TheVariants as put
use Rattle.m2_feed.specs.Calls.{Composes, GreetsOn, IsBad, IsFront, IsSameButRoom, NotesStamp, OnlyReads, Owes, Passes, ReadsOn, WritesOn, at_acceptance, at_opening, is_empty}
use Rattle.m2_feed.specs.FeedNow.{FeedNow, Reading, is_framing}
use Rattle.m2_feed.specs.Stands.{MayAcknowledge, IsNextStamp, Stands, is_ready, passes_over}

-- a read that gave bytes, and a write that took some
abbrev pub gives : EndRead → Bool
gives (read.Got n) = true
gives _ = false

abbrev pub takes : FeedWrite → Bool
takes (put.Put n acknowledged) = true
takes _ = false

-- ---- where a feed begins

abbrev pub OpensBeside : Type 0
OpensBeside = (f : SideFacts) (s : State) (end : SeenEnd) (last : ℕ) (owes : Bool) (v : FeedNow) →
    v ≡ at_opening end (opener_half f) v → Stands f s v (opened_feed f end.id last owes)

-- with the text of the acceptance, which is one that an entry names and doesn't acknowledge
pub record IsAcceptance (f : SideFacts) (w : OutFrame) : Type 0 where
  pub named : is_unnamed w ≡ false
  pub silent : acknowledges w ≡ false
  pub some : out.text_of f w ≢ []

abbrev pub TakesOverBeside : Type 0
TakesOverBeside = (f : SideFacts) (s : State) (end : SeenEnd) (rest : List ℕ) (resumed : Option ℕ) (last : ℕ) (owes : Bool) (w : OutFrame) (v : FeedNow) →
    IsAcceptance f w → v ≡ at_acceptance end rest false (out.text_of f w) v →
    Stands f s v (record (taken_feed end.id rest resumed last owes) { texts = begun f w ∷ [] })

-- ---- what moves no byte

-- the end is told something, or the room grows
pub record StaysBeside : Type 0 where
  pub end : (f : SideFacts) (s : State) (old new : FeedNow) (d : Feed) → Stands f s old d →
      new ≡ record old { end = new.end } → new.end.id ≡ old.end.id → Stands f s new d
  pub room : (f : SideFacts) (s : State) (old new : FeedNow) (d : Feed) → Stands f s old d → IsSameButRoom old new → Stands f s new d
  -- a read that gave nothing, and a write that took nothing
  pub read : (f : SideFacts) (s : State) (answer : EndRead) (old new : FeedNow) (d : Feed) → Stands f s old d →
      gives answer ≡ false → ReadsOn answer old new → Stands f s new d
  pub write : (f : SideFacts) (s : State) (answer : FeedWrite) (old new : FeedNow) (d : Feed) → Stands f s old d →
      takes answer ≡ false → WritesOn answer old new → Stands f s new d

-- ---- reading

-- the bytes that were read stand at the end of the log, and are heard
pub record ReadsBeside (f : SideFacts) (s : State) (n : ℕ) (old new : FeedNow) (d : Feed) : Type 0 where
  pub bytes : List ℕ
  pub some : 0 < n
  pub count : length bytes ≡ n
  pub log : new.end.log.got ≡ old.end.log.got ++ bytes
  pub stands : Stands f s new (hears bytes d)

abbrev pub HearsBeside : Type 0
HearsBeside = (f : SideFacts) (s : State) (n : ℕ) (old new : FeedNow) (d : Feed) → Stands f s old d →
    ReadsOn (read.Got n) old new → ReadsBeside f s n old new d

-- the half goes on, and the replay has done so before
abbrev pub GreetsBeside : Type 0
GreetsBeside = (f : SideFacts) (s : State) (answer : HalfStep) (old new : FeedNow) (d : Feed) → Stands f s old d →
    GreetsOn answer old new → Stands f s new d

-- this item stood at the front, and the text there is passed
pub record PassesThe (item : Item) (old new : Reading) : Type 0 where
  pub len : ℕ
  pub front : IsFront old item len
  pub other : Item
  pub passes : Passes old other new

-- a text that is passed over; of a keepalive the stamp is noted
pub record PassesBeside : Type 0 where
  pub plain : (f : SideFacts) (s : State) (item : Item) (old new : FeedNow) (d : Feed) → Stands f s old d →
      passes_over s item ≡ true → stamp_of (said item) ≡ None → PassesThe item old.reading new.reading → OnlyReads old new → Stands f s new d
  pub keepalive : (f : SideFacts) (s : State) (item : Item) (k : Keepalive) (len : ℕ) (old new : FeedNow) (d : Feed) → Stands f s old d →
      passes_over s item ≡ true → stamp_of (said item) ≡ Some k → IsFront old.reading item len → NotesStamp (Ok tt) k old new → Stands f s new d

-- Outside Ready the text at the front is the answer; in Ready it is the next one, where it isn't passed over.
pub record TakesBeside : Type 0 where
  pub answer_next : (f : SideFacts) (s : State) (item : Item) (len : ℕ) (v : FeedNow) (d : Feed) → Stands f s v d →
      is_ready s ≡ false → IsFront v.reading item len → answer_said d ≡ Some (said item)
  pub answer : (f : SideFacts) (s : State) (item : Item) (old new : FeedNow) (d : Feed) → Stands f s old d →
      is_ready s ≡ false → stamp_of (said item) ≡ None → PassesThe item old.reading new.reading → OnlyReads old new → Stands f s new (takes_answer d)
  pub text_next : (f : SideFacts) (s : State) (item : Item) (len : ℕ) (v : FeedNow) (d : Feed) → Stands f s v d →
      is_ready s ≡ true → is_passed s.last (said item) ≡ false → IsFront v.reading item len → next_said s.last d ≡ Some (said item)
  pub text : (f : SideFacts) (s : State) (item : Item) (old new : FeedNow) (d : Feed) → Stands f s old d →
      is_ready s ≡ true → is_passed s.last (said item) ≡ false → PassesThe item old.reading new.reading → OnlyReads old new →
      Stands f s new (record d { taken = next_place s.last d + 1 })

-- ---- the state changes, and the feed doesn't

pub record ChangesBeside : Type 0 where
  -- outside Ready any state may follow, also one in which numbers are set back
  pub idle : (f : SideFacts) (s t : State) (v : FeedNow) (d : Feed) (floor : ℕ) (owed : Bool) → Stands f s v d →
      is_ready s ≡ false → Stands f t v (record d { floor = floor; owed = owed })
  pub ready : (f : SideFacts) (s t : State) (v : FeedNow) (d : Feed) → Stands f s v d →
      is_ready t ≡ true → s.last ≤ t.last → (s.owes ≡ true → t.owes ≡ true) → Stands f t v d

-- ---- writing

pub record ComposesBeside : Type 0 where
  -- all that was composed is put
  pub all_put : (f : SideFacts) (s : State) (v : FeedNow) (d : Feed) → Stands f s v d →
      is_framing v.reading ≡ true → is_empty v.composed ≡ true → HasPutAll d
  -- a frame that an entry names
  pub named : (f : SideFacts) (s : State) (w : OutFrame) (old new : FeedNow) (d : Feed) → Stands f s old d →
      is_framing old.reading ≡ true → is_unnamed w ≡ false → out.text_of f w ≢ [] →
      Composes (writing.Named (acknowledges w)) (out.text_of f w) old new → Stands f s new (record d { texts = begun f w ∷ [] })
  -- an acknowledgement, and the answer to a keepalive, of which the replay knows nothing yet
  pub acknowledgement : (f : SideFacts) (s : State) (number : ℕ) (old new : FeedNow) (d : Feed) → Stands f s old d →
      is_framing old.reading ≡ true → is_empty old.composed ≡ true → is_ready s ≡ true → MayAcknowledge f s d number →
      Composes (writing.Acknowledgement number false) (out.text_of f (out.acknowledgement number)) old new → Stands f s new d
  pub keepalive_answer : (f : SideFacts) (s : State) (k : Keepalive) (old new : FeedNow) (d : Feed) → Stands f s old d →
      is_framing old.reading ≡ true → is_empty old.composed ≡ true → is_ready s ≡ true → IsNextStamp k old.stamps →
      Composes (writing.KeepaliveAnswer false) (out.text_of f (out.keepalive_answer k)) old new → Stands f s new d

-- after the first n bytes that are composed are put: they may be, and where the replay stands then
pub record PutsBeside (f : SideFacts) (s : State) (n : ℕ) (acknowledged : Bool) (old new : FeedNow) (d : Feed) : Type 0 where
  pub count : length (take n old.composed) ≡ n
  pub log : new.end.log.put ≡ old.end.log.put ++ take n old.composed
  pub lawful : GoesOn f s (take n old.composed) d
  pub feed : Feed
  pub fed : (puts f (take n old.composed) d s).feed ≡ Some feed
  pub owes : (puts f (take n old.composed) d s).owes ≡ (s.owes && not acknowledged)
  pub stands : Stands f (puts f (take n old.composed) d s) new feed

abbrev pub PutsKeep : Type 0
PutsKeep = (f : SideFacts) (s : State) (n : ℕ) (acknowledged : Bool) (old new : FeedNow) (d : Feed) → Stands f s old d →
    WritesOn (put.Put n acknowledged) old new → PutsBeside f s n acknowledged old new d

-- ---- what the code finds wrong is a fault of the replay

pub record FindsFaults : Type 0 where
  pub of_half : (f : SideFacts) (s : State) (e : HalfFault) (old new : FeedNow) (d : Feed) → Stands f s old d →
      GreetsOn (half.Fault e) old new → has_failed d.hand ≡ true
  pub frame : (f : SideFacts) (s : State) (e : FrameFault) (v : FeedNow) (d : Feed) → Stands f s v d →
      IsBad v.reading e → is_broken s d ≡ true
  -- a size is asked for where no MESSAGE may come
  pub early : (f : SideFacts) (s : State) (n : ℕ) (v : FeedNow) (d : Feed) → Stands f s v d →
      is_ready s ≡ false → Owes v.reading n → is_broken s d ≡ true
  pub refused : (f : SideFacts) (s : State) (item : Item) (len : ℕ) (v : FeedNow) (d : Feed) → Stands f s v d →
      IsFront v.reading item len → passes_over s item ≡ false → is_refused s.session.phase s.last (Some (said item)) ≡ true → is_broken s d ≡ true
  pub too_much : (f : SideFacts) (s : State) (item : Item) (len number : ℕ) (v : FeedNow) (d : Feed) → Stands f s v d →
      IsFront v.reading item len → told_by (said item) ≡ Some number → s.out.queue.written < number → is_broken s d ≡ true

-- what the text at the front acknowledges is told
abbrev pub HearsTold : Type 0
HearsTold = (f : SideFacts) (s : State) (item : Item) (len number : ℕ) (v : FeedNow) (d : Feed) → Stands f s v d →
    IsFront v.reading item len → told_by (said item) ≡ Some number → list_any (λ n. n == number) (told d) ≡ true

-- ---- texts

abbrev pub reconnect_of : SideFacts → (client server global connect seen : ℕ) → Control
reconnect_of f client server global connect seen = control.SessionReconnect (record {
  addrs = V4 f.mine ∷ [];
  client = client;
  server = server;
  global = global;
  connect = connect;
  seen = seen;
})

-- the payload of an ask is as long whichever numbers stand in it, and no frame's text is empty
pub record TextsAreKnown : Type 0 where
  pub ident : (f : SideFacts) (cookie global : ℕ) → length (payload.text_of (out.client_ident_of f cookie global)) ≡ IDENT_BYTES
  pub reconnect : (f : SideFacts) (client server global connect seen : ℕ) → length (payload.text_of (reconnect_of f client server global connect seen)) ≡ RECONNECT_BYTES
  pub some : (f : SideFacts) (w : OutFrame) → w ≢ out.greeting → out.text_of f w ≢ []
