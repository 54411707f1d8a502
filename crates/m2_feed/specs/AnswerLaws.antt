-- A side hears what the replay of its journal hears.
use Rattle.std.specs.Prelude.{◌≡◌, ℕ, Bool, true, false, IsTrue, Some}
use Rattle.m2_feed.specs.FeedNow.{FeedNow, is_framing}
use Rattle.m2_feed.specs.Stands.{Stands}
use Rattle.m2_frame.specs.Frame.{Parts}
use Rattle.m2_frame.specs.Reading.{whole}
use Rattle.m2_journal.specs.Feeds.{told_by}
use Rattle.m2_journal.specs.Lawful.{IsReset, is_refused}
use Rattle.m2_journal.specs.Said.{Said, said}
use Rattle.m2_journal.specs.SideFacts.{SideFacts}
use Rattle.m2_journal.specs.State.{Feed, State}
use Rattle.m2_journal.specs.Steps.{answer_event, event_heard}
use Rattle.m2_session.specs.declared.event.Event.{Event}
use Rattle.m2_session.specs.declared.session.Phase.{Phase}
use Rattle.m2_session.specs.declared.session.Phase.TheVariants.{Connecting, ReconnectSent, Ready}
use Rattle.m2_session.specs.declared.session.Session.{Session}
use Rattle.m2_session.specs.Phases.{is}
use Rattle.m2_session.specs.Steps.{is_lawful}
use Rattle.m2_feed.specs.declared.answer_fault.AnswerFault.{AnswerFault}
use Rattle.m2_feed.specs.declared.heard.Heard.{Heard}
use Rattle.m2_feed.specs.declared.heard.Heard.TheVariants as heard
use Rattle.m2_feed.specs.Front.{event_in, heard_at}
use Rattle.m2_feed.specs.Heard.{event_of, heard_in}

-- This is what the text says in the phase: the replay takes the same event when it reads it, and the session may be told of
-- it; what it acknowledges is told in the replay; a reset is one that may be obeyed; and what is refused is a fault of the
-- replay outside Ready.
pub record IsHeard (f : SideFacts) (p : Phase) (x : Said) (h : Heard) : Type 0 where
  pub answer : answer_event f p (Some x) ≡ event_of h
  pub lawful : (s : Session) (v : Event) → event_of h ≡ Some v → s.phase ≡ p → IsTrue (is_lawful s v)
  pub told : (seen : ℕ) → h ≡ heard.ReconnectOk seen → told_by x ≡ Some seen
  pub reset : (full : Bool) → h ≡ heard.Reset full → (p ≡ ReconnectSent) × IsReset full (Some x)
  pub refused : (last : ℕ) (e : AnswerFault) → h ≡ heard.Refused e → is p Ready ≡ false → is_refused p last (Some x) ≡ true

abbrev pub FramesAreHeard : Type 0
FramesAreHeard = (f : SideFacts) (p : Phase) (x : Parts) → IsHeard f p (said (whole x)) (heard_in f.peer f.policy p x)

-- Where both sides have signed, or nothing was asked yet.
abbrev pub FrontsAreHeard : Type 0
FrontsAreHeard = (f : SideFacts) (s : State) (v : FeedNow) (d : Feed) → Stands f s v d →
    (is_framing v.reading ≡ false → s.session.phase ≡ Connecting) →
    event_heard f s.session.phase d ≡ event_in (heard_at f.peer f.policy s.session.phase v.reading)
