-- How each call of a feed changes what contracts see of it. This project's own.
use Rattle.std.specs.Prelude.{◌≡◌, ℕ, ◌&&◌, ◌==◌, Bool, true, false, if◌then◌else◌, List, [], ◌∷◌, ◌++◌, length, take, drop, Option, Some, None, Result, Ok, Err}
use Rattle.m2_bytes.specs.declared.memory.NoMemory as memory
use Rattle.m2_control.specs.declared.control.Control.{Control}
use Rattle.m2_control.specs.declared.control.Control.TheVariants as control
use Rattle.m2_control.specs.declared.keepalive.Keepalive.{Keepalive}
use Rattle.m2_fabric.specs.End.{SeenEnd, Reads, Writes}
use Rattle.m2_fabric.specs.declared.end.EndRead.{EndRead}
use Rattle.m2_fabric.specs.declared.end.EndRead.TheVariants as read
use Rattle.m2_fabric.specs.declared.end.EndWrite.TheVariants as write
use Rattle.m2_frame.specs.declared.fault.FrameFault.{FrameFault}
use Rattle.m2_frame.specs.declared.got.Got.{Got}
use Rattle.m2_frame.specs.declared.got.Got.TheVariants as got
use Rattle.m2_frame.specs.Frame.{Parts, message_tag, parts}
use Rattle.m2_frame.specs.Reading.{Item, whole, dropped, start, bad, text, judge, owed_at}
use Rattle.m2_handshake.specs.Asking.{is_ready}
use Rattle.m2_handshake.specs.declared.answer.HalfStep.{HalfStep}
use Rattle.m2_handshake.specs.declared.answer.HalfStep.TheVariants as half
use Rattle.m2_handshake.specs.Half.{Answers}
use Rattle.m2_handshake.specs.Moves.{is_at_rest, is_authed}
use Rattle.m2_handshake.specs.Standing.{Standing, fed}
use Rattle.m2_handshake.specs.Texts.{frame_text}
use Rattle.m2_message.specs.declared.header_text.TheConstants.{HEADER_BYTES}
use Rattle.m2_message.specs.declared.message.Message.{Message}
use Rattle.m2_message.specs.Message.{content_of}
use Rattle.m2_message.specs.MessageFrame.{message_in}
use Rattle.m2_feed.specs.declared.answers.FeedWrite.{FeedWrite}
use Rattle.m2_feed.specs.declared.answers.FeedWrite.TheVariants as put
use Rattle.m2_feed.specs.declared.feed.TheConstants.{MOST_READ}
use Rattle.m2_feed.specs.declared.writing.Writing.{Writing}
use Rattle.m2_feed.specs.declared.writing.Writing.TheVariants.{Nothing, Named, Acknowledgement, KeepaliveAnswer}
use Rattle.m2_feed.specs.FeedNow.{Reading, shaking, framing, FeedNow}

-- ---- where a feed begins

-- a socket that this side opened: nothing is heard and nothing is composed
abbrev pub at_opening : SeenEnd → Standing → FeedNow → FeedNow
at_opening end standing v = record v { end = end; opened = true; reading = shaking standing; composed = []; writing = Nothing; stamps = [] }

-- a socket of the other side, whose half has left these bytes unread, with the text of the acceptance to be written
abbrev pub at_acceptance : SeenEnd → List ℕ → Bool → List ℕ → FeedNow → FeedNow
at_acceptance end rest granted accepts v =
    record v { end = end; opened = false; reading = framing rest granted; composed = accepts; writing = Named false; stamps = [] }

-- ---- reading

abbrev pub heard : List ℕ → Reading → Reading
heard bytes (shaking s) = shaking (fed s bytes)
heard bytes (framing rest granted) = framing (rest ++ bytes) granted

-- what the end answered, and the first bytes of the piece where it gave some
abbrev pub heard_of : EndRead → List ℕ → Reading → Reading
heard_of (read.Got n) piece r = heard (take n piece) r
heard_of _ piece r = r

-- one read of the end into a piece of MOST_READ bytes, and all that it gave is heard
pub record HearsPiece (answer : EndRead) (old : SeenEnd) (before : Reading) (new : SeenEnd) (after : Reading) : Type 0 where
  pub piece : List ℕ
  pub most : length piece ≡ MOST_READ
  pub reads : Reads answer piece old new
  pub heard : after ≡ heard_of answer piece before

pub record ReadsPiece (answer : EndRead) (old new : FeedNow) : Type 0 where
  pub hears : HearsPiece answer old.end old.reading new.end new.reading
  pub only : new ≡ record old { end = new.end; reading = new.reading }

-- Want of memory, of the feed or of the end, leaves all as it was.
abbrev pub ReadsOn : EndRead → FeedNow → FeedNow → Type 0
ReadsOn read.NoMemory old new = new ≡ old
ReadsOn answer old new = ReadsPiece answer old new

-- ---- the opener's handshake

-- whose bytes are composed where both sides have signed: a handshake's, or none
abbrev pub greeting_left : List ℕ → Writing
greeting_left [] = Nothing
greeting_left (b ∷ bs) = Named false

-- the half answers, and writes a text behind what was composed
abbrev pub HalfWrites : HalfStep → (before after : Standing) → (old new : List ℕ) → Type 0
HalfWrites answer before after old new =
    (words : List ℕ) × (new ≡ old ++ words)
    × Answers answer (record { standing = before; out = [] }) (record { standing = after; out = words })

-- a half that hasn't signed signs by an answer of Authed alone, and can be finished then
abbrev pub is_signing : HalfStep → Bool
is_signing half.Authed = true
is_signing _ = false

pub record SignsOnlyAs (answer : HalfStep) (before after : Standing) : Type 0 where
  pub signs : is_signing answer ≡ true → is_authed before.stage ≡ false → is_ready after ≡ true
  pub goes_on : is_signing answer ≡ false → is_authed before.stage ≡ false → is_authed after.stage ≡ false

-- a half that has signed is a decoder from then on
abbrev pub after_greeting : HalfStep → Standing → (composed : List ℕ) → FeedNow → FeedNow
after_greeting half.Authed s composed v =
    record v { reading = framing s.rest false; composed = composed; writing = greeting_left composed }
after_greeting _ s composed v = record v { reading = shaking s; composed = composed }

-- one answer of the half
pub record GreetsOn (answer : HalfStep) (old new : FeedNow) : Type 0 where
  pub before : Standing
  pub after : Standing
  pub stood : old.reading ≡ shaking before
  pub writes : HalfWrites answer before after old.composed new.composed
  pub leaves : new ≡ record (after_greeting answer after new.composed old) { room = new.room }

-- ---- frames

-- nothing changes but what is read
abbrev pub OnlyReads : FeedNow → FeedNow → Type 0
OnlyReads old new = new ≡ record old { reading = new.reading }

-- nothing is to be done before more bytes come
abbrev pub Rests : Reading → Type 0
Rests (shaking s) = is_at_rest s ≡ true
Rests (framing rest granted) = (owed_at rest granted ≡ None) × (judge rest ≡ start)

-- the whole text of an item stands at the front, and no size is owed
abbrev pub IsFront : Reading → Item → (len : ℕ) → Type 0
IsFront (framing rest granted) item len = (owed_at rest granted ≡ None) × (judge rest ≡ text item len)
IsFront (shaking s) item len = ⊥

-- the text at the front is passed
abbrev pub passed : (len : ℕ) → Reading → Reading
passed len (framing rest granted) = framing (drop len rest) false
passed len (shaking s) = shaking s

abbrev pub Passes : Reading → Item → Reading → Type 0
Passes old item new = (len : ℕ) × IsFront old item len × (new ≡ passed len old)

abbrev pub HasFrame : Reading → Type 0
HasFrame r = (f : Parts) × (len : ℕ) × IsFront r (whole f) len

abbrev pub PassesFrame : Reading → Reading → Type 0
PassesFrame old new = (f : Parts) × Passes old (whole f) new

-- a MESSAGE with a whole header stands at the front
pub record HasMessage (r : Reading) : Type 0 where
  pub frame : Parts
  pub len : ℕ
  pub front : IsFront r (whole frame) len
  pub tag : frame.tag ≡ message_tag
  pub header : length frame.first ≡ HEADER_BYTES

-- the message that the frame at the front brings
abbrev pub IsInFront : Message → Reading → Type 0
IsInFront m r = (f : Parts) × (len : ℕ) × IsFront r (whole f) len × (content_of m ≡ message_in f)

-- it is copied, and the frame is passed
abbrev pub TakesMessage : Result Message memory.NoMemory → FeedNow → FeedNow → Type 0
TakesMessage (Ok m) old new =
    ((f : Parts) × Passes old.reading (whole f) new.reading × (content_of m ≡ message_in f)) × OnlyReads old new
TakesMessage (Err _) old new = new ≡ old

-- a size is asked for and isn't granted
abbrev pub Owes : Reading → ℕ → Type 0
Owes (framing rest granted) n = owed_at rest granted ≡ Some n
Owes (shaking s) n = ⊥

-- no frame begins so
abbrev pub IsBad : Reading → FrameFault → Type 0
IsBad (framing rest granted) f = (owed_at rest granted ≡ None) × (judge rest ≡ bad f)
IsBad (shaking s) f = ⊥

abbrev pub with_grant : Reading → Reading
with_grant (framing rest granted) = framing rest true
with_grant (shaking s) = shaking s

-- one answer of the decoder; memory is taken for a frame alone
abbrev pub GivesNext : Got → Reading → Reading → Type 0
GivesNext (got.Frame f) old new = Passes old (whole (parts f)) new
GivesNext (got.Aborted tag) old new = Passes old (dropped tag) new
GivesNext (got.Size n) old new = Owes old n × (new ≡ old)
GivesNext got.NotYet old new = Rests old × (new ≡ old)
GivesNext (got.Fault f) old new = IsBad old f × (new ≡ old)
GivesNext got.NoMemory old new = HasFrame old × (new ≡ old)

-- Ok: the frame at the front is passed, and this stamp noted. Err: all is as before.
abbrev pub NotesStamp : Result (Unit {0}) memory.NoMemory → Keepalive → FeedNow → FeedNow → Type 0
NotesStamp (Ok _) k old new =
    PassesFrame old.reading new.reading × (new ≡ record old { reading = new.reading; stamps = old.stamps ++ k ∷ [] })
NotesStamp (Err _) k old new = new ≡ old

-- ---- writing

abbrev pub is_empty : List ℕ → Bool
is_empty [] = true
is_empty (b ∷ bs) = false

-- some of it is put
abbrev pub begun : Writing → Writing
begun (Acknowledgement number b) = Acknowledgement number true
begun (KeepaliveAnswer b) = KeepaliveAnswer true
begun w = w

abbrev pub writing_left : (whole : Bool) → Writing → Writing
writing_left true w = Nothing
writing_left false w = begun w

-- the first stamp is answered
abbrev pub stamps_left : (whole : Bool) → Writing → List Keepalive → List Keepalive
stamps_left true (KeepaliveAnswer b) stamps = drop 1 stamps
stamps_left _ w stamps = stamps

-- it says what was accepted
abbrev pub acknowledges : Writing → Bool
acknowledges (Named a) = a
acknowledges (Acknowledgement number b) = true
acknowledges _ = false

-- these bytes are left
abbrev pub with_left : List ℕ → FeedNow → FeedNow
with_left left v = record v {
  composed = left;
  writing = writing_left (is_empty left) v.writing;
  stamps = stamps_left (is_empty left) v.writing v.stamps;
}

abbrev pub after_put : ℕ → FeedNow → FeedNow
after_put n v = with_left (drop n v.composed) v

-- the last of a text that acknowledges is put
abbrev pub pays : ℕ → FeedNow → Bool
pays n v = is_empty (drop n v.composed) && acknowledges v.writing

abbrev pub WritesOn : FeedWrite → FeedNow → FeedNow → Type 0
WritesOn (put.Put n acknowledged) old new =
    Writes (write.Put n) old.composed old.end new.end × (acknowledged ≡ pays n old)
    × (new ≡ record (after_put n old) { end = new.end; room = new.room })
WritesOn put.NotYet old new = Writes write.NotYet old.composed old.end new.end × (new ≡ record old { end = new.end })
WritesOn put.Failed old new = Writes write.Failed old.composed old.end new.end × (new ≡ record old { end = new.end })
WritesOn put.NoMemory old new = new ≡ old

-- ---- composing

-- all but the room is the same
abbrev pub IsSameButRoom : FeedNow → FeedNow → Type 0
IsSameButRoom old new = new ≡ record old { room = new.room }

-- a text is composed, where nothing is left of another
abbrev pub Composes : Writing → List ℕ → FeedNow → FeedNow → Type 0
Composes w bytes old new = new ≡ record old { composed = bytes; writing = w; room = new.room }

-- the same where memory lasts
abbrev pub ComposesIfOk : Result (Unit {0}) memory.NoMemory → Writing → List ℕ → FeedNow → FeedNow → Type 0
ComposesIfOk (Ok _) w bytes old new = Composes w bytes old new
ComposesIfOk (Err _) w bytes old new = IsSameButRoom old new

abbrev pub acknowledgement : ℕ → Control
acknowledgement number = control.Ack (record { seen = number })

abbrev pub answer_to : Keepalive → Control
answer_to k = control.KeepaliveAck (record { seconds = k.seconds; nanos = k.nanos })

-- the text of the answer to the first keepalive that isn't answered
abbrev pub answer_text : List Keepalive → List ℕ
answer_text (k ∷ ks) = frame_text (answer_to k)
answer_text [] = []
