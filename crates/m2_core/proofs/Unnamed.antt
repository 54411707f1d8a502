-- A text that no entry names is composed: of it the replay knows nothing yet.
use Rattle.std.proofs.Common.{◌≡◌, ℕ, ◌<◌, true, false, List, [], ◌∷◌, length, Option, Some, None, Result, Ok, Err, refl, sym, ap, subst, ◌∙◌, arith}
use Rattle.m2_bytes.specs.declared.memory.NoMemory as memory
use Rattle.m2_control.specs.declared.keepalive.Keepalive.{Keepalive}
use Rattle.m2_feed.specs.Calls.{ComposesIfOk, answer_text}
use Rattle.m2_feed.specs.FeedNow.{FeedNow}
use Rattle.m2_feed.specs.FeedLaws.{ComposesBeside, StaysBeside}
use Rattle.m2_feed.specs.Stands.{Stands}
use Rattle.m2_feed.specs.declared.writing.Writing.{Writing}
use Rattle.m2_feed.specs.declared.writing.Writing.TheVariants as writing
use Rattle.m2_journal.specs.Laws.{CanBePaid, IfFed}
use Rattle.m2_journal.specs.OutFrames as out
use Rattle.m2_journal.specs.SideFacts.{SideFacts}
use Rattle.m2_journal.specs.State.{Feed, State}
use Rattle.m2_session.specs.declared.session.Phase.TheVariants.{Ready}
use Rattle.m2_session.specs.Phases as phase
use Rattle.m2_core.specs.LiveNow.{LiveNow, OnFeedNow, is_ready}
use Rattle.m2_core.specs.OnFeed.{AnswersStamp, CanWrite, ComposesFeed, HasStamp}
use Rattle.m2_core.specs.LiveCalls.{live_with}
use Rattle.m2_core.specs.Agrees.{FeedsAgree}
use Rattle.m2_core.specs.Composing.{HasAcknowledged, HasAnswered, OwesOne}
use Rattle.m2_core.specs.CoreNow.{CoreNow, Holds, IsSound}

abbrev Answer : Type 0
Answer = Result (Unit {0}) memory.NoMemory

-- ---- an acknowledgement

acknowledged_at : ComposesBeside → StaysBeside → (r : Answer) (f : SideFacts) (s : State) (last : ℕ) (x y : Option FeedNow) (d : Option Feed) →
    phase.is s.session.phase Ready ≡ true → s.owes ≡ true → f.policy.lossy ≡ false → last ≡ s.last → OnFeedNow x CanWrite → IfFed d (CanBePaid s) →
    ComposesFeed r (writing.Acknowledgement last false) (out.text_of f (out.acknowledgement last)) x y → FeedsAgree f s x d → FeedsAgree f s y d
acknowledged_at law moves (Ok u) f s last (Some v) (Some new) (Some d) ready owes kept l can paid w st =
    law.acknowledgement f s last v new d st can.signed can.put ready
    (record { owes = owes; kept = kept; from = rw l (paid.last owes); to = rw l (omega arith) }) w
acknowledged_at law moves (Err e) f s last (Some v) (Some new) (Some d) ready owes kept l can paid w st = moves.room f s v new d st w
acknowledged_at law moves r f s last (Some v) (Some new) None ready owes kept l can paid w st = absurd st
acknowledged_at law moves r f s last None y d ready owes kept l can paid w st = absurd w
acknowledged_at law moves r f s last (Some v) None d ready owes kept l can paid w st = absurd w

pub acknowledged : ComposesBeside → StaysBeside → (r : Answer) (c : CoreNow) (y : Option FeedNow) → OwesOne c → OnFeedNow c.live.feed CanWrite →
    ComposesFeed r (writing.Acknowledgement c.live.last false) (out.text_of c.facts (out.acknowledgement c.live.last)) c.live.feed y →
    HasAcknowledged r c (record c { live = live_with y c.live })
acknowledged law moves r c y o can w = record {
  composes = w;
  only = refl;
  stays = λ s a paid. record {
    session = a.session;
    queue = a.queue;
    last = a.last;
    life = a.life;
    owes = a.owes;
    dials = a.dials;
    top = a.top;
    feed = acknowledged_at law moves r c.facts s c.live.last c.live.feed y s.feed (ap (λ z. phase.is z.phase Ready) (sym a.session) ∙ o.ready)
        (sym a.owes ∙ o.owes) o.kept a.last can paid w a.feed;
    resumed = a.resumed;
  };
}

-- ---- the answer to a keepalive

answered_by : ComposesBeside → StaysBeside → (r : Answer) (f : SideFacts) (s : State) (v new : FeedNow) (stamps : List Keepalive) (d : Feed) → v.stamps ≡ stamps →
    phase.is s.session.phase Ready ≡ true → HasStamp v → ComposesIfOk r (writing.KeepaliveAnswer false) (answer_text stamps) v new → Stands f s v d → Stands f s new d
answered_by law moves (Ok u) f s v new (k ∷ ks) d e ready has w st =
    law.keepalive_answer f s k v new d st has.can.signed has.can.put ready (ks, e) w
answered_by law moves (Ok u) f s v new [] d e ready has w st = absurd (none (subst (λ z. 0 < length z) e has.some))
  where
    none : 0 < 0 → ⊥
    none h = omega (arith, h)
answered_by law moves (Err n) f s v new stamps d e ready has w st = moves.room f s v new d st w

answered_at : ComposesBeside → StaysBeside → (r : Answer) (f : SideFacts) (s : State) (x y : Option FeedNow) (d : Option Feed) →
    phase.is s.session.phase Ready ≡ true → OnFeedNow x HasStamp → AnswersStamp r x y → FeedsAgree f s x d → FeedsAgree f s y d
answered_at law moves r f s (Some v) (Some new) (Some d) ready has w st = answered_by law moves r f s v new v.stamps d refl ready has w st
answered_at law moves r f s (Some v) (Some new) None ready has w st = absurd st
answered_at law moves r f s None y d ready has w st = absurd w
answered_at law moves r f s (Some v) None d ready has w st = absurd w

pub answered : ComposesBeside → StaysBeside → (r : Answer) (c : CoreNow) (y : Option FeedNow) → is_ready c.live ≡ true → OnFeedNow c.live.feed HasStamp →
    AnswersStamp r c.live.feed y → HasAnswered r c (record c { live = live_with y c.live })
answered law moves r c y ready has w = record {
  composes = w;
  only = refl;
  stays = λ s a. record {
    session = a.session;
    queue = a.queue;
    last = a.last;
    life = a.life;
    owes = a.owes;
    dials = a.dials;
    top = a.top;
    feed = answered_at law moves r c.facts s c.live.feed y s.feed (ap (λ z. phase.is z.phase Ready) (sym a.session) ∙ ready) has w a.feed;
    resumed = a.resumed;
  };
}

-- ---- what holds of each core

-- a feed that reads as before
abbrev pub ReadsSame : Option FeedNow → Option FeedNow → Type 0
ReadsSame (Some v) (Some new) = new.reading ≡ v.reading
ReadsSame None y = ⊥
ReadsSame (Some v) None = ⊥

acknowledgement_reads : (r : Answer) (w : Writing) (text : List ℕ) (x y : Option FeedNow) → ComposesFeed r w text x y → ReadsSame x y
acknowledgement_reads (Ok u) w text (Some v) (Some new) h = ap (λ z. z.reading) h
acknowledgement_reads (Err e) w text (Some v) (Some new) h = ap (λ z. z.reading) h
acknowledgement_reads r w text None y h = absurd h
acknowledgement_reads r w text (Some v) None h = absurd h

answer_reads : (r : Answer) (x y : Option FeedNow) → AnswersStamp r x y → ReadsSame x y
answer_reads (Ok u) (Some v) (Some new) h = ap (λ z. z.reading) h
answer_reads (Err e) (Some v) (Some new) h = ap (λ z. z.reading) h
answer_reads r None y h = absurd h
answer_reads r (Some v) None h = absurd h

sound_on : (l : LiveNow) (x y : Option FeedNow) → ReadsSame x y → IsSound (live_with x l) → IsSound (live_with y l)
sound_on l (Some v) (Some new) e h = record {
  fed = h.fed;
  asked = rw e h.asked;
  connect = h.connect;
  numbers = h.numbers;
  grant = rw e h.grant;
  told = rw e h.told;
  ungranted = h.ungranted;
}
sound_on l None y e h = absurd e
sound_on l (Some v) None e h = absurd e

pub keeps_acknowledging : (r : Answer) (w : Writing) (text : List ℕ) (c : CoreNow) (y : Option FeedNow) → Holds c → ComposesFeed r w text c.live.feed y →
    Holds (record c { live = live_with y c.live })
keeps_acknowledging r w text c y h e = record { place = h.place; sound = sound_on c.live c.live.feed y (acknowledgement_reads r w text c.live.feed y e) h.sound }

pub keeps_answering : (r : Answer) (c : CoreNow) (y : Option FeedNow) → Holds c → AnswersStamp r c.live.feed y → Holds (record c { live = live_with y c.live })
keeps_answering r c y h e = record { place = h.place; sound = sound_on c.live c.live.feed y (answer_reads r c.live.feed y e) h.sound }
