-- What stands at the front of a core's feed, and what it says to the core.
use Rattle.std.specs.Prelude.{ℕ, nat_lt, if◌then◌else◌, Option, Some, None}
use Rattle.m2_feed.specs.FeedNow.{Reading, framing, shaking}
use Rattle.m2_frame.specs.Frame.{message_tag}
use Rattle.m2_frame.specs.Reading.{Front, start, bad, text, judge, owed_at}
use Rattle.m2_feed.specs.declared.wire_fault.WireFault.TheVariants as fault
use Rattle.m2_feed.specs.declared.frame_heard.FrameHeard.{FrameHeard}
use Rattle.m2_feed.specs.declared.frame_heard.FrameHeard.TheVariants.{Fault}
use Rattle.m2_feed.specs.declared.hearer.Hearer.{Hearer}
use Rattle.m2_feed.specs.FrameHeard.{heard_of}
use Rattle.m2_journal.specs.SideFacts.{SideFacts}
use Rattle.m2_journal.specs.State.{State}
use Rattle.m2_queues.specs.OutQueues.{Queue}
use Rattle.m2_session.specs.declared.session.Phase.TheVariants.{Ready}
use Rattle.m2_session.specs.declared.session.Session.{Session}
use Rattle.m2_session.specs.Phases as phase
use Rattle.m2_core.specs.LiveNow.{OnFeedNow, is_ready}
use Rattle.m2_core.specs.OnFeed.{Hears}
use Rattle.m2_core.specs.CoreNow.{CoreNow}

-- ---- who hears

abbrev pub hearer_with : SideFacts → Session → Queue → (last : ℕ) → Hearer
hearer_with f s q last = record {
  phase = s.phase;
  peer = f.peer;
  policy = f.policy;
  last = last;
  written = q.written;
  acknowledged = q.base;
}

abbrev pub hearer_of : CoreNow → Hearer
hearer_of c = hearer_with c.facts c.live.session c.live.out.queue c.live.last

-- where the journal of the core leads
abbrev pub hearer_at : SideFacts → State → Hearer
hearer_at f s = hearer_with f s.session s.out.queue s.last

-- ---- what is at the front

pub data FrontHeard : Type 0 where
  -- nothing whole
  rests : FrontHeard
  -- a MESSAGE that asks for so many bytes, which aren't granted
  asks : (size : ℕ) → FrontHeard
  -- something that says this
  tells : FrameHeard → FrontHeard

-- Outside Ready no MESSAGE may come, whatever its size is.
abbrev pub front_in : Hearer → (owed : Option ℕ) → Front → FrontHeard
front_in h (Some n) front = if phase.is h.phase Ready then asks n else tells (Fault (fault.Unexpected message_tag))
front_in h None start = rests
front_in h None (bad f) = tells (Fault (fault.Frame f))
front_in h None (text item len) = tells (heard_of h item)

-- before both sides have signed no frame is read here
abbrev pub front_of : Hearer → Reading → FrontHeard
front_of h (framing rest granted) = front_in h (owed_at rest granted) (judge rest)
front_of h (shaking s) = rests

-- In Ready a resumption that acknowledges more than was written is a fault, before any text there. What it acknowledges else was
-- counted by the step that took it.
abbrev pub resumption_of : Hearer → (resumed : ℕ) → Option FrameHeard
resumption_of h resumed = if nat_lt h.written resumed then Some (Fault (fault.BadAck h.written resumed)) else None

abbrev pub resumption_at : CoreNow → Option FrameHeard
resumption_at c = if is_ready c.live then resumption_of (hearer_of c) c.live.resumed else None

abbrev pub before_front : Option FrameHeard → FrontHeard → FrontHeard
before_front (Some says) front = tells says
before_front None front = front

abbrev pub heard_by : CoreNow → Reading → FrontHeard
heard_by c r = before_front (resumption_at c) (front_of (hearer_of c) r)

-- ---- words

abbrev pub HearsOn : CoreNow → FrameHeard → Type 0
HearsOn c heard = OnFeedNow c.live.feed (λ v. Hears (hearer_of c) heard v.reading)
