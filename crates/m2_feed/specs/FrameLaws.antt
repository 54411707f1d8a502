-- What is heard beside what the replay of journals says of the same text.
use Rattle.std.specs.Prelude.{◌≡◌, ◌≢◌, ℕ, ◌+◌, ◌*◌, ◌<◌, ◌≤◌, ◌⊎◌, ◌==◌, Bool, true, false, if◌then◌else◌, List, length, Option, Some, None}
use Rattle.m2_control.specs.declared.control.Control.TheVariants as control
use Rattle.m2_control.specs.declared.keepalive.Keepalive.{Keepalive}
use Rattle.m2_control.specs.declared.session_reset.SessionReset.{SessionReset}
use Rattle.m2_frame.specs.declared.frame.TheConstants.{MESSAGE_LIMIT}
use Rattle.m2_frame.specs.Frame.{Parts, message_tag}
use Rattle.m2_frame.specs.Reading.{Item, whole, dropped, text, judge, size_of}
use Rattle.m2_journal.specs.Feeds.{is_passed, stamp_of, told_by}
use Rattle.m2_journal.specs.Lawful.{is_refused}
use Rattle.m2_journal.specs.Said.{Said, says, brings, said}
use Rattle.m2_message.specs.Message.{Content}
use Rattle.m2_message.specs.declared.header_text.TheConstants.{HEADER_BYTES}
use Rattle.m2_message.specs.MessageFrame.{message_in}
use Rattle.m2_session.specs.declared.session.Phase.{Phase}
use Rattle.m2_session.specs.declared.session.Phase.TheVariants.{ReconnectSent, Ready}
use Rattle.m2_session.specs.Phases as phase
use Rattle.m2_feed.specs.declared.wire_fault.WireFault.{WireFault}
use Rattle.m2_feed.specs.declared.frame_heard.FrameHeard.{FrameHeard}
use Rattle.m2_feed.specs.declared.frame_heard.FrameHeard.TheVariants.{Nothing, Stamp, Acknowledges, Brings, Resets, Fault}
use Rattle.m2_feed.specs.declared.hearer.Hearer.{Hearer}
use Rattle.m2_feed.specs.FrameHeard.{heard_of}

-- ---- by the replay, of a text that says x

-- it is passed over in Ready, and what it acknowledges was counted
pub record IsPassed (h : Hearer) (x : Said) : Type 0 where
  pub ready : phase.is h.phase Ready ≡ true
  pub passed : is_passed h.last x ≡ true
  pub counted : (n : ℕ) → told_by x ≡ Some n → n ≤ h.acknowledged

-- it acknowledges a number that was written and isn't counted
pub record IsAcknowledging (h : Hearer) (number : ℕ) (x : Said) : Type 0 where
  pub ready : phase.is h.phase Ready ≡ true
  pub told : told_by x ≡ Some number
  pub above : h.acknowledged < number
  pub written : number ≤ h.written

-- it is the message after the last one
pub record IsNextMessage (h : Hearer) (n : ℕ) (x : Said) : Type 0 where
  pub ready : phase.is h.phase Ready ≡ true
  pub message : Content
  pub said : x ≡ brings message
  pub number : message.header.seq ≡ n
  pub next : n ≡ h.last + 1

-- it is a reset with this mark, and an answer to a reconnect
pub record IsReset (h : Hearer) (full : Bool) (x : Said) : Type 0 where
  pub phase : h.phase ≡ ReconnectSent
  pub reset : SessionReset
  pub said : x ≡ says (control.SessionReset reset)
  pub mark : reset.full ≡ full

-- it isn't passed over and may not come, or acknowledges more than was written
pub record IsRefused (h : Hearer) (x : Said) : Type 0 where
  pub stops : phase.is h.phase Ready ≡ true → is_passed h.last x ≡ false
  pub refused : is_refused h.phase h.last (Some x) ≡ true

pub record IsBeyond (h : Hearer) (x : Said) : Type 0 where
  pub number : ℕ
  pub told : told_by x ≡ Some number
  pub beyond : h.written < number

-- ---- each answer by the replay

abbrev pub IsAsReplayed : FrameHeard → Hearer → Said → Type 0
IsAsReplayed Nothing h x = IsPassed h x × (stamp_of x ≡ None)
IsAsReplayed (Stamp k) h x = IsPassed h x × (stamp_of x ≡ Some k)
IsAsReplayed (Acknowledges n) h x = IsAcknowledging h n x
IsAsReplayed (Brings n) h x = IsNextMessage h n x
IsAsReplayed (Resets full) h x = IsReset h full x
IsAsReplayed (Fault cause) h x = IsRefused h x ⊎ IsBeyond h x

abbrev pub IsHeardAsReplayed : Type 0
IsHeardAsReplayed = (h : Hearer) (item : Item) → IsAsReplayed (heard_of h item) h (said item)

-- A frame that brings a message is a MESSAGE with a whole header.
pub record IsMessageFrame (f : Parts) : Type 0 where
  pub tag : f.tag ≡ message_tag
  pub header : length f.first ≡ HEADER_BYTES
  pub says : said (whole f) ≡ brings (message_in f)

abbrev pub BringsMessages : Type 0
BringsMessages = (h : Hearer) (f : Parts) (n : ℕ) → heard_of h (whole f) ≡ Brings n → IsMessageFrame f

-- ---- sizes

pub record AsksForItsSize : Type 0 where
  pub message : (rest : List ℕ) (f : Parts) (len : ℕ) → judge rest ≡ text (whole f) len → f.tag ≡ message_tag →
      size_of rest ≡ Some (length f.second + length f.third + length f.fourth)
  pub aborted : (rest : List ℕ) (tag len : ℕ) → judge rest ≡ text (dropped tag) len → (n : ℕ) × (size_of rest ≡ Some n)
  pub bound : (rest : List ℕ) (n : ℕ) → size_of rest ≡ Some n → n ≤ 3 * MESSAGE_LIMIT
