-- The next message is numbered and composed: the core and the replay go on alike.
use Rattle.std.proofs.Common.{◌≡◌, ◌≢◌, ℕ, ◌+◌, ◌<◌, ◌≤◌, Bool, true, false, [], length, take, Option, Some, None, Result, Ok, Err, refl, sym, ap, subst, ◌∙◌, arith}
use Rattle.std.specs.Prelude.{nat_lt}
use Rattle.std.proofs.lemmas.Bool.{lt-ltb}
use Rattle.std.proofs.lemmas.Bool.Decides.{nat_tests}
use Rattle.std.proofs.lemmas.List.{length-drop, length-take, length-append}
use Rattle.m2_bytes.specs.declared.memory.NoMemory as memory
use Rattle.m2_control.specs.declared.fields.TheConstants.{GREATEST_NUMBER}
use Rattle.m2_feed.specs.FeedNow.{FeedNow}
use Rattle.m2_feed.specs.FeedLaws.{ChangesBeside, ComposesBeside, StaysBeside}
use Rattle.m2_frame.proofs.Lengths.{length-text_of}
use Rattle.m2_frame.specs.Frame.{Parts}
use Rattle.m2_frame.specs.Text as frame
use Rattle.m2_journal.specs.Items as item
use Rattle.m2_journal.specs.Lawful.{MayNumber, OnFeedAt}
use Rattle.m2_journal.specs.OutFrames as out
use Rattle.m2_journal.specs.SideFacts.{SideFacts}
use Rattle.m2_journal.specs.State.{Feed, State}
use Rattle.m2_journal.specs.Steps.{after, queues, writes_message}
use Rattle.m2_message.specs.Message.{Content}
use Rattle.m2_queues.proofs.Unsent.{next-is_at_cursor}
use Rattle.m2_queues.specs.QueueLaws.{Next}
use Rattle.m2_queues.specs.OutQueues.{Outgoing, Queue, after_next, after_sent, last_number, message_at, next_number}
use Rattle.m2_session.specs.declared.session.Phase.TheVariants.{Ready}
use Rattle.m2_shared.specs.declared.peer_grants.PeerGrants.{PeerGrants}
use Rattle.m2_core.specs.LiveNow.{LiveNow, OnFeedNow, is_ready}
use Rattle.m2_core.specs.OnFeed.{CanWrite, ChangesRoom, ComposesMessage}
use Rattle.m2_core.specs.LiveNumbering.{Numbers, NumbersOn}
use Rattle.m2_core.proofs.Agreeing.{IsResumed, agreed, core_of, stands_as}
use Rattle.m2_core.specs.Agrees.{Agrees, FeedsAgree, LeadsOn, MayCome}
use Rattle.m2_core.specs.CoreNow.{CoreNow, Holds, IsSound}
use Rattle.m2_core.specs.Numbering.{HasNumbered}
use Rattle.m2_feed.proofs.Heeding.{is_ready as is_the_phase}

abbrev Answer : Type 0
Answer = Result ℕ memory.NoMemory

-- ---- the entry

pub has_text : (f : Parts) → frame.text_of f ≢ []
has_text f e = let n = length-text_of f in let z = ap length e in omega (arith, n, z)

-- the core with this queue and feed
abbrev with_both : Queue → FeedNow → CoreNow → CoreNow
with_both q new c = record c { live = record c.live { out = record c.live.out { queue = q }; feed = Some new } }

module _ (composes : ComposesBeside) (changes : ChangesBeside) (k : ℕ) (m : Content) (v new : FeedNow) (can : CanWrite v) where
  landed : (f : SideFacts) (s : State) (n r : ℕ) (g : PeerGrants) (y : Option Feed) →
      message_at (after_next s.out.queue) k ≡ Some m → (after_next s.out.queue).cursor < length (after_next s.out.queue).kept →
      ComposesMessage k s.last m (Some v) (Some new) → FeedsAgree f (record s { feed = y }) (Some v) y → IsResumed r y →
      Agrees (with_both (after_sent (after_next s.out.queue)) new (core_of f (record s { feed = y }) n r (Some v) g)) (after f (item.numbered k) (record s { feed = y }))
  landed f s n r g (Some d) there unsent w st told =
      let t : State = record s { feed = Some d } in
      let so : nat_lt (after_next s.out.queue).cursor (length (after_next s.out.queue).kept) ≡ true = lt-ltb _ _ unsent in
      subst (λ o. Agrees (with_both (after_sent (after_next s.out.queue)) new (core_of f t n r (Some v) g)) (writes_message f k o (queues Next t))) (sym there) (record {
        session = refl;
        queue = rw so refl;
        last = refl;
        life = refl;
        owes = refl;
        dials = refl;
        top = refl;
        feed = stands_as changes f t _ new _ refl refl refl (composes.named f t (out.message k s.last m) v new d st can.signed refl (has_text _) w);
        resumed = told;
      })
  landed f s n r g None there unsent w st told = absurd st

may_on : ComposesBeside → (f : SideFacts) (s : State) (k : ℕ) (v : FeedNow) (y : Option Feed) → CanWrite v → s.session.phase ≡ Ready → next_number s.out.queue ≡ Some k → k ≤ GREATEST_NUMBER →
    FeedsAgree f s (Some v) y → OnFeedAt y (MayNumber s k)
may_on composes f s k v (Some d) can p e fits st = record { phase = p; put = composes.all_put f s v d st can.signed can.put; next = e; fits = fits }
may_on composes f s k v None can p e fits st = absurd st

abbrev both_with : Queue → Option FeedNow → CoreNow → CoreNow
both_with q y c = record c { live = record c.live { out = record c.live.out { queue = q }; feed = y } }

entry_on : ComposesBeside → ChangesBeside → (k : ℕ) (c : CoreNow) (x y : Option FeedNow) (b : Outgoing) → is_ready c.live ≡ true → OnFeedNow x CanWrite → k ≤ GREATEST_NUMBER →
    Numbers k c.live.last c.live.out b x y → let c' = record c { live = record c.live { feed = x } } in
    MayCome (item.numbered k) c' × LeadsOn (item.numbered k) c' (record c' { live = record c'.live { out = record c.live.out { queue = after_sent (after_next c.live.out.queue) }; feed = y } })
entry_on composes changes k c (Some v) (Some new) b ready can fits w = (
  (λ s a. may_on composes c.facts s k v s.feed can (sym (ap (λ x. x.phase) a.session) ∙ is_the_phase c.live.session.phase ready)
      (subst (λ (q : Queue). next_number q ≡ Some k) a.queue w.next) fits a.feed),
  λ s a. subst (λ (u : CoreNow). Agrees (with_both (after_sent (after_next u.live.out.queue)) new u) (after c.facts (item.numbered k) s))
      (agreed (record c { live = record c.live { feed = Some v } }) s a)
      (landed composes changes k w.message v new can c.facts s c.live.out.spare c.live.resumed c.live.granted s.feed
      (subst (λ (q : Queue). message_at (after_next q) k ≡ Some w.message) a.queue w.there)
      (subst (λ (q : Queue). (after_next q).cursor < length (after_next q).kept) a.queue w.unsent)
      (subst (λ (l : ℕ). ComposesMessage k l w.message (Some v) (Some new)) a.last w.composes)
      a.feed a.resumed),
)
entry_on composes changes k c None y b ready can fits w = absurd can
entry_on composes changes k c (Some v) None b ready can fits w = absurd w.composes

pub room_on : StaysBeside → (f : SideFacts) (s : State) (x y : Option FeedNow) (d : Option Feed) → ChangesRoom x y → FeedsAgree f s x d → FeedsAgree f s y d
room_on moves f s (Some v) (Some new) (Some d) w st = moves.room f s v new d st w
room_on moves f s (Some v) (Some new) None w st = absurd st
room_on moves f s None y d w st = absurd w
room_on moves f s (Some v) None d w st = absurd w

pub has_numbered : ComposesBeside → ChangesBeside → StaysBeside → (r : Answer) (c : CoreNow) (b : Outgoing) (y : Option FeedNow) → is_ready c.live ≡ true →
    OnFeedNow c.live.feed CanWrite → NumbersOn r c.live.last c.live.out b c.live.feed y →
    HasNumbered r c (record c { live = record c.live { out = b; feed = y } })
has_numbered composes changes moves (Ok k) c b y ready can w = record {
  numbers = w;
  only = refl;
  entry = rw w.queue (entry_on composes changes k c c.live.feed y b ready can w.fits w);
}
has_numbered composes changes moves (Err e) c b y ready can w = record {
  numbers = w;
  only = refl;
  entry = λ s a. record {
    session = a.session;
    queue = ap (λ (o : Outgoing). o.queue) w.0 ∙ a.queue;
    last = a.last;
    life = a.life;
    owes = a.owes;
    dials = a.dials;
    top = a.top;
    feed = room_on moves c.facts s c.live.feed y s.feed w.1 a.feed;
    resumed = a.resumed;
  };
}

-- ---- what holds of each core

-- the number that is given is the greatest one given
next_last : (q : Queue) (k : ℕ) → next_number q ≡ Some k → k ≤ GREATEST_NUMBER → last_number q ≤ GREATEST_NUMBER → last_number (after_next q) ≤ GREATEST_NUMBER
next_last q k e fits h = by_place (nat_lt q.cursor (length q.kept)) refl
  where
    at : k ≡ q.base + q.cursor + 1
    at = next-is_at_cursor q k e

    by_place : (b : Bool) → nat_lt q.cursor (length q.kept) ≡ b → last_number (after_next q) ≤ GREATEST_NUMBER
    by_place true is = rw is h
    by_place false is =
        let behind : length q.kept ≤ q.cursor = grind (arith, nat_tests) in
        let more = length-append q.kept (take 1 q.waiting) in
        let one = length-take 1 q.waiting in
        rw is (omega (arith, behind, more, one, at, fits))

sent_last : (q : Queue) → q.cursor < length q.kept → last_number (after_sent q) ≤ last_number q
sent_last q h = by_keeping q.keeps refl
  where
    by_keeping : (b : Bool) → q.keeps ≡ b → last_number (after_sent q) ≤ last_number q
    by_keeping true is = rw is (omega arith)
    by_keeping false is = let n = length-drop 1 q.kept in rw is (omega (arith, n, h))

abbrev reads_same : (x y : Option FeedNow) → Type 0
reads_same (Some v) (Some new) = new.reading ≡ v.reading
reads_same x y = ⊥

sound_on : (l : LiveNow) (x y : Option FeedNow) (b : Outgoing) → reads_same x y → last_number b.queue ≤ GREATEST_NUMBER → IsSound (record l { feed = x }) → IsSound (record l { out = b; feed = y })
sound_on l (Some v) (Some new) b e n h = record {
  fed = h.fed;
  asked = rw e h.asked;
  connect = h.connect;
  numbers = n;
  grant = rw e h.grant;
  told = rw e h.told;
  ungranted = h.ungranted;
}
sound_on l None y b e n h = absurd e
sound_on l (Some v) None b e n h = absurd e

composed_reads : (k l : ℕ) (m : Content) (x y : Option FeedNow) → ComposesMessage k l m x y → reads_same x y
composed_reads k l m (Some v) (Some new) w = ap (λ z. z.reading) w
composed_reads k l m None y w = absurd w
composed_reads k l m (Some v) None w = absurd w

room_reads : (x y : Option FeedNow) → ChangesRoom x y → reads_same x y
room_reads (Some v) (Some new) w = ap (λ z. z.reading) w
room_reads None y w = absurd w
room_reads (Some v) None w = absurd w

pub keeps : (r : Answer) (c : CoreNow) (b : Outgoing) (y : Option FeedNow) → Holds c → NumbersOn r c.live.last c.live.out b c.live.feed y →
    Holds (record c { live = record c.live { out = b; feed = y } })
keeps (Ok k) c b y h w =
    let q = c.live.out.queue in
    let n = next_last q k w.next w.fits h.sound.numbers in
    let s = sent_last (after_next q) w.unsent in
    record {
      place = h.place;
      sound = sound_on c.live c.live.feed y b (composed_reads k c.live.last w.message c.live.feed y w.composes) (rw w.queue (omega (arith, n, s))) h.sound;
    }
keeps (Err e) c b y h w = record {
  place = h.place;
  sound = sound_on c.live c.live.feed y b (room_reads c.live.feed y w.1) (rw w.0 h.sound.numbers) h.sound;
}

-- ---- the same, as the code comes to it

pub has_numbered_live : ComposesBeside → ChangesBeside → StaysBeside → (r : Answer) (c : CoreNow) (l : LiveNow) → is_ready c.live ≡ true →
    OnFeedNow c.live.feed CanWrite → NumbersOn r c.live.last c.live.out l.out c.live.feed l.feed → l ≡ record c.live { out = l.out; feed = l.feed } →
    HasNumbered r c (record c { live = l })
has_numbered_live composes changes moves r c l ready can w e =
    subst (λ (z : LiveNow). HasNumbered r c (record c { live = z })) (sym e) (has_numbered composes changes moves r c l.out l.feed ready can w)

pub keeps_live : (r : Answer) (c : CoreNow) (l : LiveNow) → Holds c → NumbersOn r c.live.last c.live.out l.out c.live.feed l.feed →
    l ≡ record c.live { out = l.out; feed = l.feed } → Holds (record c { live = l })
keeps_live r c l h w e = subst (λ (z : LiveNow). Holds (record c { live = z })) (sym e) (keeps r c l.out l.feed h w)
