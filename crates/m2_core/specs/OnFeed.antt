-- What one call leaves of a feed, where there is one.
use Rattle.std.specs.Prelude.{◌≡◌, ℕ, ◌<◌, true, false, List, length, Option, Some, None, Result}
use Rattle.m2_bytes.specs.declared.memory.NoMemory as memory
use Rattle.m2_control.specs.declared.keepalive.Keepalive.{Keepalive}
use Rattle.m2_fabric.specs.End.{after_news}
use Rattle.m2_fabric.specs.declared.end.EndRead.{EndRead}
use Rattle.m2_fabric.specs.declared.end.News.{News}
use Rattle.m2_feed.specs.Calls as feed
use Rattle.m2_feed.specs.Calls.{ComposesIfOk, GivesNext, GreetsOn, IsFront, NotesStamp, OnlyReads, PassesFrame, ReadsOn, Rests, TakesMessage, WritesOn, answer_text, is_empty, with_grant}
use Rattle.m2_feed.specs.FeedNow.{FeedNow, Reading, is_framing}
use Rattle.m2_feed.specs.FeedLaws.{PassesThe}
use Rattle.m2_feed.specs.declared.answers.FeedWrite.{FeedWrite}
use Rattle.m2_feed.specs.declared.writing.Writing.TheVariants as writing
use Rattle.m2_feed.specs.declared.writing.Writing.{Writing}
use Rattle.m2_frame.specs.Frame.{Parts}
use Rattle.m2_frame.specs.Reading.{Item, whole}
use Rattle.m2_frame.specs.Text as frame
use Rattle.m2_frame.specs.declared.got.Got.{Got}
use Rattle.m2_handshake.specs.declared.answer.HalfStep.{HalfStep}
use Rattle.m2_feed.specs.FrameHeard.{heard_of}
use Rattle.m2_feed.specs.declared.frame_heard.FrameHeard.{FrameHeard}
use Rattle.m2_feed.specs.declared.hearer.Hearer.{Hearer}
use Rattle.m2_message.specs.Message.{Content, with_numbers}
use Rattle.m2_message.specs.declared.message.Message.{Message}
use Rattle.m2_message.specs.MessageFrame.{parts_of}
use Rattle.m2_core.specs.LiveNow.{OnFeedNow}

-- ---- the handshake, and the front

-- one answer of the half
abbrev pub GreetsFeed : HalfStep → Option FeedNow → Option FeedNow → Type 0
GreetsFeed answer (Some old) (Some new) = GreetsOn answer old new
GreetsFeed answer _ _ = ⊥

-- a whole frame stands at the front, and this is what it says
pub record Hears (h : Hearer) (heard : FrameHeard) (r : Reading) : Type 0 where
  pub frame : Parts
  pub len : ℕ
  pub front : IsFront r (whole frame) len
  pub says : heard_of h (whole frame) ≡ heard

-- this item stood at the front, and is passed
abbrev pub PassesItem : Item → Option FeedNow → Option FeedNow → Type 0
PassesItem item (Some old) (Some new) = PassesThe item old.reading new.reading × OnlyReads old new
PassesItem item _ _ = ⊥

-- the frame at the front is passed
abbrev pub PassesFeed : Option FeedNow → Option FeedNow → Type 0
PassesFeed (Some old) (Some new) = PassesFrame old.reading new.reading × OnlyReads old new
PassesFeed _ _ = ⊥

-- and its stamp is noted, where memory lasts
abbrev pub NotesFeed : Result (Unit {0}) memory.NoMemory → Keepalive → Option FeedNow → Option FeedNow → Type 0
NotesFeed r k (Some old) (Some new) = NotesStamp r k old new
NotesFeed r k _ _ = ⊥

-- the message of the frame at the front is taken, where memory lasts
abbrev pub TakesFeed : Result Message memory.NoMemory → Option FeedNow → Option FeedNow → Type 0
TakesFeed r (Some old) (Some new) = TakesMessage r old new
TakesFeed r _ _ = ⊥

-- one answer of its decoder
abbrev pub GivesFeed : Got → Option FeedNow → Option FeedNow → Type 0
GivesFeed g (Some old) (Some new) = GivesNext g old.reading new.reading × OnlyReads old new
GivesFeed g _ _ = ⊥

-- no whole frame stands at the front
abbrev pub HasNoFrame : Option FeedNow → Type 0
HasNoFrame x = OnFeedNow x (λ v. (f : Parts) (len : ℕ) → ¬ IsFront v.reading (whole f) len)

-- its decoder is told that the size is granted
abbrev pub granted_feed : Option FeedNow → Option FeedNow
granted_feed (Some v) = Some (record v { reading = with_grant v.reading })
granted_feed None = None

-- ---- bytes

-- the feed's end is read once
abbrev pub ReadsFeed : EndRead → Option FeedNow → Option FeedNow → Type 0
ReadsFeed answer (Some old) (Some new) = ReadsOn answer old new
ReadsFeed answer _ _ = ⊥

-- the feed's end is written once
abbrev pub WritesFeed : FeedWrite → Option FeedNow → Option FeedNow → Type 0
WritesFeed answer (Some old) (Some new) = WritesOn answer old new
WritesFeed answer _ _ = ⊥

-- its end has heard the news
abbrev pub feed_after_news : News → List ℕ → Option FeedNow → Option FeedNow
feed_after_news n bytes (Some v) = Some (record v { end = after_news n bytes v.end })
feed_after_news n bytes None = None

-- ---- what is composed, and when it may be

-- both sides have signed, and nothing is left of another text
pub record CanWrite (v : FeedNow) : Type 0 where
  pub signed : is_framing v.reading ≡ true
  pub put : is_empty v.composed ≡ true

-- nothing has come that isn't answered, and nothing is left of another text
pub record CanAsk (v : FeedNow) : Type 0 where
  pub write : CanWrite v
  pub rests : Rests v.reading

-- a keepalive is to be answered
pub record HasStamp (v : FeedNow) : Type 0 where
  pub can : CanWrite v
  pub some : 0 < length v.stamps

-- nothing but the room changes
abbrev pub ChangesRoom : Option FeedNow → Option FeedNow → Type 0
ChangesRoom (Some old) (Some new) = feed.IsSameButRoom old new
ChangesRoom _ _ = ⊥

-- a text is composed, where memory lasts
abbrev pub ComposesFeed : Result (Unit {0}) memory.NoMemory → Writing → List ℕ → Option FeedNow → Option FeedNow → Type 0
ComposesFeed r w text (Some old) (Some new) = ComposesIfOk r w text old new
ComposesFeed r w text _ _ = ⊥

-- the answer to the first keepalive that isn't answered is
abbrev pub AnswersStamp : Result (Unit {0}) memory.NoMemory → Option FeedNow → Option FeedNow → Type 0
AnswersStamp r (Some old) (Some new) = ComposesIfOk r (writing.KeepaliveAnswer false) (answer_text old.stamps) old new
AnswersStamp r _ _ = ⊥

-- a text that an entry names is composed
abbrev pub ComposesAsk : List ℕ → Option FeedNow → Option FeedNow → Type 0
ComposesAsk bytes (Some old) (Some new) = feed.Composes (writing.Named false) bytes old new
ComposesAsk bytes _ _ = ⊥

-- the message's text is composed, with its number and the last accepted one
abbrev pub ComposesMessage : (number last : ℕ) → Content → Option FeedNow → Option FeedNow → Type 0
ComposesMessage number last m (Some old) (Some new) = feed.Composes (writing.Named true) (frame.text_of (parts_of (with_numbers number last m))) old new
ComposesMessage number last m _ _ = ⊥
