-- A text that is passed without an entry: the replay passes it over.
use Rattle.std.proofs.Common.{◌≡◌, ℕ, true, false, Option, Some, None, Result, Ok, Err, refl, sym, ap, subst, ◌∙◌}
use Rattle.std.proofs.lemmas.Bool.{true≢false}
use Rattle.m2_bytes.specs.declared.memory.NoMemory as memory
use Rattle.m2_control.specs.declared.keepalive.Keepalive.{Keepalive}
use Rattle.m2_feed.specs.Calls.{HasFrame, IsFront, passed}
use Rattle.m2_feed.specs.FeedNow.{FeedNow, Reading, framing, shaking, is_framing}
use Rattle.m2_feed.specs.FeedLaws.{PassesBeside, PassesThe}
use Rattle.m2_feed.specs.Stands.{passes_over}
use Rattle.m2_frame.specs.Reading.{Item, whole}
use Rattle.m2_feed.specs.declared.frame_heard.FrameHeard.{FrameHeard}
use Rattle.m2_feed.specs.declared.frame_heard.FrameHeard.TheVariants.{Nothing, Stamp}
use Rattle.m2_feed.specs.declared.hearer.Hearer.{Hearer}
use Rattle.m2_feed.specs.FrameLaws.{IsHeardAsReplayed, IsPassed}
use Rattle.m2_journal.specs.Feeds.{is_passed, stamp_of}
use Rattle.m2_journal.specs.Said.{said}
use Rattle.m2_journal.specs.SideFacts.{SideFacts}
use Rattle.m2_journal.specs.State.{Feed, State}
use Rattle.m2_session.specs.declared.session.Phase.TheVariants.{Ready}
use Rattle.m2_session.specs.Phases as phase
use Rattle.m2_core.specs.LiveNow.{LiveNow, OnFeedNow, asked_in, is_granted_in}
use Rattle.m2_core.proofs.Holding.{nothing_for}
use Rattle.m2_core.specs.OnFeed.{Hears, NotesFeed, PassesFeed, PassesItem}
use Rattle.m2_core.specs.LiveCalls.{LiveNotes, LivePasses, passed_live}
use Rattle.m2_core.specs.Agrees.{FeedsAgree, Stays}
use Rattle.m2_core.specs.CoreNow.{CoreNow, Holds, IsSound}
use Rattle.m2_core.specs.Front.{HearsOn, hearer_at, hearer_of}
use Rattle.m2_core.specs.Passing.{HasNoted, HasPassed, PassesHeard, StampsFeed}
use Rattle.m2_core.proofs.Fronts.{as_replayed}
use Rattle.m2_bytes.proofs.m2_lemmas.Booleans.{both_true}

-- where it is passed over
pub over : (f : SideFacts) (s : State) (item : Item) → IsPassed (hearer_at f s) (said item) → passes_over s item ≡ true
over f s item k = both_true (phase.is s.session.phase Ready) (is_passed s.last (said item)) k.ready k.passed

-- ---- the feed

pub frame_there : (c : CoreNow) (heard : FrameHeard) → HearsOn c heard → OnFeedNow c.live.feed (λ v. HasFrame v.reading)
frame_there c heard h = at c.live.feed h
  where
    at : (x : Option FeedNow) → OnFeedNow x (λ v. Hears (hearer_of c) heard v.reading) → OnFeedNow x (λ v. HasFrame v.reading)
    at (Some v) k = (k.frame, k.len, k.front)
    at None k = absurd k

passes_heard : (h : Hearer) (heard : FrameHeard) (x y : Option FeedNow) → OnFeedNow x (λ v. Hears h heard v.reading) → PassesFeed x y → PassesHeard h heard x y
passes_heard h heard (Some v) (Some new) k p = record {
  item = whole k.frame;
  says = k.says;
  passes = (record { len = k.len; front = k.front; other = whole p.0.0; passes = p.0.1 }, p.1);
}
passes_heard h heard (Some v) None k p = absurd p
passes_heard h heard None y k p = absurd k

stamps_heard : (h : Hearer) (k : Keepalive) (x y : Option FeedNow) → OnFeedNow x (λ v. Hears h (Stamp k) v.reading) → NotesFeed (Ok tt) k x y → StampsFeed h k x y
stamps_heard h k (Some v) (Some new) a n = (a, n)
stamps_heard h k (Some v) None a n = absurd n
stamps_heard h k None y a n = absurd a

-- ---- beside the replay

passed_beside : PassesBeside → (f : SideFacts) (s : State) (item : Item) (x y : Option FeedNow) (d : Option Feed) → passes_over s item ≡ true → stamp_of (said item) ≡ None →
    PassesItem item x y → FeedsAgree f s x d → FeedsAgree f s y d
passed_beside law f s item (Some v) (Some new) (Some d) o n p st = law.plain f s item v new d st o n p.0 p.1
passed_beside law f s item (Some v) (Some new) None o n p st = absurd st
passed_beside law f s item (Some v) None d o n p st = absurd p
passed_beside law f s item None y d o n p st = absurd p

pub passed_stays : IsHeardAsReplayed → PassesBeside → (c : CoreNow) (y : Option FeedNow) → PassesHeard (hearer_of c) Nothing c.live.feed y →
    Stays c (record c { live = passed_live y c.live })
passed_stays law passes c y p s a =
    let k = as_replayed law c s a p.item Nothing p.says in
    record {
      session = a.session;
      queue = a.queue;
      last = a.last;
      life = a.life;
      owes = a.owes;
      dials = a.dials;
      top = a.top;
      feed = passed_beside passes c.facts s p.item c.live.feed y s.feed (over c.facts s p.item k.0) k.1 p.passes a.feed;
      resumed = a.resumed;
    }

has_passed : IsHeardAsReplayed → PassesBeside → (c : CoreNow) (y : Option FeedNow) → HearsOn c Nothing → PassesFeed c.live.feed y →
    HasPassed c (record c { live = passed_live y c.live })
has_passed law passes c y h p =
    let k = passes_heard (hearer_of c) Nothing c.live.feed y h p in
    record { passes = k; only = refl; stays = passed_stays law passes c y k }

-- the same, as the code comes to it
pub passed_to : IsHeardAsReplayed → PassesBeside → (c : CoreNow) (l : LiveNow) → HearsOn c Nothing → LivePasses c.live l → HasPassed c (record c { live = l })
passed_to law passes c l h p = subst (λ (k : LiveNow). HasPassed c (record c { live = k })) (sym p.only) (has_passed law passes c l.feed h p.feed)

stamped_beside : PassesBeside → (f : SideFacts) (s : State) (h : Hearer) (k : Keepalive) (x y : Option FeedNow) (d : Option Feed) → StampsFeed h k x y →
    ((v : FeedNow) (a : Hears h (Stamp k) v.reading) → IsPassed (hearer_at f s) (said (whole a.frame)) × (stamp_of (said (whole a.frame)) ≡ Some k)) →
    FeedsAgree f s x d → FeedsAgree f s y d
stamped_beside law f s h k (Some v) (Some new) (Some d) t is st =
    let a = t.0 in
    let p = is v a in
    law.keepalive f s (whole a.frame) k a.len v new d st (over f s (whole a.frame) p.0) p.1 a.front t.1
stamped_beside law f s h k (Some v) (Some new) None t is st = absurd st
stamped_beside law f s h k (Some v) None d t is st = absurd t
stamped_beside law f s h k None y d t is st = absurd t

stamped_stays : IsHeardAsReplayed → PassesBeside → (c : CoreNow) (k : Keepalive) (y : Option FeedNow) → StampsFeed (hearer_of c) k c.live.feed y →
    Stays c (record c { live = passed_live y c.live })
stamped_stays law passes c k y t s a = record {
  session = a.session;
  queue = a.queue;
  last = a.last;
  life = a.life;
  owes = a.owes;
  dials = a.dials;
  top = a.top;
  feed = stamped_beside passes c.facts s (hearer_of c) k c.live.feed y s.feed t (λ v h. as_replayed law c s a (whole h.frame) (Stamp k) h.says) a.feed;
  resumed = a.resumed;
}

has_noted : IsHeardAsReplayed → PassesBeside → (c : CoreNow) (k : Keepalive) (y : Option FeedNow) → HearsOn c (Stamp k) → NotesFeed (Ok tt) k c.live.feed y →
    HasNoted (Ok tt) k c (record c { live = passed_live y c.live })
has_noted law passes c k y h n =
    let t = stamps_heard (hearer_of c) k c.live.feed y h n in
    record { stamps = t; only = refl; stays = stamped_stays law passes c k y t }

pub noted_to : IsHeardAsReplayed → PassesBeside → (r : Result (Unit {0}) memory.NoMemory) (c : CoreNow) (k : Keepalive) (l : LiveNow) → HearsOn c (Stamp k) → LiveNotes r k c.live l →
    HasNoted r k c (record c { live = l })
noted_to law passes (Ok u) c k l h n = subst (λ (m : LiveNow). HasNoted (Ok u) k c (record c { live = m })) (sym n.1) (has_noted law passes c k l.feed h n.0)
noted_to law passes (Err e) c k l h n = ap (λ (m : LiveNow). record c { live = m }) n

-- ---- what holds of each core

-- where a text was passed a decoder reads, and nothing is granted
pub passed_reads : (r : Reading) (item : Item) (len : ℕ) → IsFront r item len → (is_framing (passed len r) ≡ true) × (is_granted_in (passed len r) ≡ false)
passed_reads (framing rest granted) item len f = (refl, refl)
passed_reads (shaking s) item len f = absurd f

reads_after : (r new : Reading) (item : Item) → PassesThe item r new → (is_framing new ≡ true) × (is_granted_in new ≡ false)
reads_after r new item p =
    let k = passed_reads r p.other p.passes.0 p.passes.1 in
    (ap is_framing p.passes.2 ∙ k.0, ap is_granted_in p.passes.2 ∙ k.1)

sound_with : (l : LiveNow) (v new : FeedNow) → (is_framing new.reading ≡ true) × (is_granted_in new.reading ≡ false) → IsSound (record l { feed = Some v }) → IsSound (passed_live (Some new) l)
sound_with l v new r h = record {
  fed = h.fed;
  asked = λ e. absurd (true≢false (sym r.0 ∙ e));
  connect = h.connect;
  numbers = h.numbers;
  grant = nothing_for (asked_in new.reading) l.granted.peer;
  told = sym r.1;
  ungranted = λ _. refl;
}

pub sound_on : (l : LiveNow) (item : Item) (x y : Option FeedNow) → PassesItem item x y → IsSound (record l { feed = x }) → IsSound (passed_live y l)
sound_on l item (Some v) (Some new) p h = sound_with l v new (reads_after v.reading new.reading item p.0) h
sound_on l item (Some v) None p h = absurd p
sound_on l item None y p h = absurd p

keeps : (c : CoreNow) (y : Option FeedNow) → Holds c → HearsOn c Nothing → PassesFeed c.live.feed y → Holds (record c { live = passed_live y c.live })
keeps c y h a p =
    let k = passes_heard (hearer_of c) Nothing c.live.feed y a p in
    record { place = h.place; sound = sound_on c.live k.item c.live.feed y k.passes h.sound }

noted_sound : (l : LiveNow) (k : Keepalive) (x y : Option FeedNow) → NotesFeed (Ok tt) k x y → IsSound (record l { feed = x }) → IsSound (passed_live y l)
noted_sound l k (Some v) (Some new) n h =
    let p = n.0.1 in
    let r = passed_reads v.reading (whole n.0.0) p.0 p.1 in
    sound_with l v new (ap is_framing p.2 ∙ r.0, ap is_granted_in p.2 ∙ r.1) h
noted_sound l k (Some v) None n h = absurd n
noted_sound l k None y n h = absurd n

keeps_noting : (c : CoreNow) (k : Keepalive) (y : Option FeedNow) → Holds c → NotesFeed (Ok tt) k c.live.feed y → Holds (record c { live = passed_live y c.live })
keeps_noting c k y h n = record { place = h.place; sound = noted_sound c.live k c.live.feed y n h.sound }

-- the same, as the code comes to it
pub keeps_to : (c : CoreNow) (l : LiveNow) → Holds c → HearsOn c Nothing → LivePasses c.live l → Holds (record c { live = l })
keeps_to c l h a p = subst (λ (k : LiveNow). Holds (record c { live = k })) (sym p.only) (keeps c l.feed h a p.feed)

pub keeps_noting_to : (r : Result (Unit {0}) memory.NoMemory) (c : CoreNow) (k : Keepalive) (l : LiveNow) → Holds c → LiveNotes r k c.live l → Holds (record c { live = l })
keeps_noting_to (Ok u) c k l h n = subst (λ (m : LiveNow). Holds (record c { live = m })) (sym n.1) (keeps_noting c k l.feed h n.0)
keeps_noting_to (Err e) c k l h n = subst (λ (m : LiveNow). Holds (record c { live = m })) (sym n) h
