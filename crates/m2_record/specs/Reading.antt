-- What reading the feed's end leaves of a record, and what the read answers. This project's own.
use Rattle.std.specs.Prelude.{◌≡◌, ℕ, ◌<◌, ◌^◌, Bool, true, false, List, [], ◌∷◌, ◌++◌, Option, Some, None}
use Rattle.std.specs.Option.{is_some, option_to_list}
use Rattle.m2_core.specs.Waits as waits
use Rattle.m2_core.specs.declared.waits.Waits.{Waits}
use Rattle.m2_core.specs.Hearing.{HasRead}
use Rattle.m2_fabric.specs.declared.end.EndRead.{EndRead}
use Rattle.m2_fabric.specs.declared.end.EndRead.TheVariants as read
use Rattle.m2_fabric.specs.declared.socket.SocketId.{SocketId}
use Rattle.m2_fabric.specs.End.{SeenEnd}
use Rattle.m2_feed.specs.FeedNow.{FeedNow}
use Rattle.m2_feed.specs.declared.wire_fault.WireFault.{WireFault}
use Rattle.m2_feed.specs.declared.wire_fault.WireFault.TheVariants as fault
use Rattle.m2_feed.specs.declared.answer_fault.AnswerFault.TheVariants as refusal
use Rattle.m2_feed.specs.declared.heard.Heard.{Heard}
use Rattle.m2_feed.specs.declared.heard.Heard.TheVariants as heard
use Rattle.m2_journal.specs.declared.entry.Entry.{Entry}
use Rattle.m2_journal.specs.declared.entry.Entry.TheVariants as entry
use Rattle.m2_journal.specs.declared.facts.NodeFacts.{NodeFacts}
use Rattle.m2_session.specs.declared.session.Phase.{Phase}
use Rattle.m2_record.specs.declared.reading.RecordRead.{RecordRead}
use Rattle.m2_record.specs.declared.stepped.Stepped.{Stepped}
use Rattle.m2_record.specs.declared.stepped.Stepped.TheVariants as stepped
use Rattle.m2_record.specs.Calls.{Breaks, CountsResumption, closed_entries}
use Rattle.m2_record.specs.RecordNow.{RecordNow}

-- ---- one read

-- the entry of the bytes that were read, where some were
abbrev pub read_entries : EndRead → Option FeedNow → List Entry
read_entries (read.Got n) (Some v) = entry.Read v.end.id n ∷ []
read_entries answer feed = []

abbrev pub entries_read : EndRead → SocketId → List Entry
entries_read (read.Got n) socket = entry.Read socket n ∷ []
entries_read answer socket = []

-- an entry can count them
abbrev pub IsReadCounted : EndRead → Type 0
IsReadCounted (read.Got n) = n < 2 ^ 32
IsReadCounted _ = Unit {0}

-- the moment of the last productive entry
abbrev pub moment_read : EndRead → (now last : ℕ) → ℕ
moment_read (read.Got n) now last = now
moment_read answer now last = last

-- Where bytes came the session may have been told of an answer, from one phase to another.
abbrev pub waits_read : EndRead → NodeFacts → (now : ℕ) → (old new : Phase) → Waits → Waits
waits_read (read.Got n) node now old new w = waits.stepped node now old new w
waits_read answer node now old new w = w

-- Whether the feed is held then: not where it was left, and not where there was nothing to read either.
abbrev pub held_read : EndRead → (closed held : Bool) → Bool
held_read answer true held = false
held_read read.NotYet false held = false
held_read answer false held = held

-- The core has read its feed once, and has taken an answer that was completed so. Where bytes came they have their entry,
-- and behind it has a feed that the answer closed.
pub record ReadsFeedOnce (x : RecordRead) (now : ℕ) (old new : RecordNow) : Type 0 where
  pub closed : Option SeenEnd
  pub core : HasRead (record { answer = x.answer; heard = x.heard; closed = closed }) old.core new.core
  pub only : new ≡ record old {
    core = new.core;
    journal = (old.journal ++ read_entries x.answer old.core.live.feed) ++ closed_entries closed;
    spent = old.spent ++ option_to_list closed;
    waits = waits_read x.answer old.core.facts.node now old.core.live.session.phase new.core.live.session.phase old.waits;
    held = held_read x.answer (is_some closed) old.held;
    last = moment_read x.answer now old.last;
    room = new.room;
  }

-- ---- what it finds

-- A fault that the read finds: the end has ended or failed, or what came says that features are missing. Every other frame
-- that is refused is a fault of the step that looks at the feed's front.
abbrev pub fault_heard : Option Heard → Option WireFault
fault_heard (Some (heard.Refused (refusal.MissingFeatures bits))) = Some (fault.MissingFeatures bits)
fault_heard _ = None

abbrev pub fault_by : EndRead → Option Heard → Option WireFault
fault_by (read.Got n) h = fault_heard h
fault_by read.Ended h = Some fault.Ended
fault_by read.Failed h = Some fault.Failed
fault_by answer h = None

abbrev pub fault_read : RecordRead → Option WireFault
fault_read x = fault_by x.answer x.heard

-- what came leads on, but for a WAIT, which has closed the feed
abbrev pub answer_heard : Option Heard → Stepped
answer_heard (Some heard.Wait) = stepped.Faulted fault.Waited
answer_heard _ = stepped.Moved

abbrev pub answer_by : EndRead → Option Heard → Stepped
answer_by (read.Got n) h = answer_heard h
answer_by read.NoMemory h = stepped.NoMemory
answer_by answer h = stepped.Dry

abbrev pub faulted_or : Option WireFault → Stepped → Stepped
faulted_or (Some f) answer = stepped.Faulted f
faulted_or None answer = answer

-- what a step answers by what it read
abbrev pub answer_read : RecordRead → Stepped
answer_read x = faulted_or (fault_read x) (answer_by x.answer x.heard)

-- ---- the step

-- where the answer that was taken resumes the session, what it acknowledges is counted
abbrev pub CountsAnswer : Option Heard → RecordNow → RecordNow → Type 0
CountsAnswer (Some (heard.ReconnectOk seen)) old new = CountsResumption old new
CountsAnswer _ old new = new ≡ old

-- then there is room for its entry
abbrev pub FitsAnswer : Option Heard → (entries : ℕ) → Type 0
FitsAnswer (Some (heard.ReconnectOk seen)) entries = 0 < entries
FitsAnswer _ entries = Unit {0}

-- for a fault the feed is closed, and else an answer is counted
abbrev pub EndsRead : Option WireFault → Option Heard → (now : ℕ) → RecordNow → RecordNow → Type 0
EndsRead (Some f) h now mid new = Breaks now mid new
EndsRead None h now mid new = CountsAnswer h mid new

-- The feed's end is read once, and then the feed is closed where that finds a fault, or what an answer acknowledges is counted.
pub record Reads (x : RecordRead) (now : ℕ) (old new : RecordNow) : Type 0 where
  pub mid : RecordNow
  pub once : ReadsFeedOnce x now old mid
  pub ends : EndsRead (fault_read x) x.heard now mid new
