-- What is put on the feed: the core and the replay go on alike.
use Rattle.std.proofs.Common.{◌≡◌, ℕ, Bool, true, false, ◌&&◌, not, List, take, Option, Some, None, refl, sym, ap, subst, inl, inr, [], ◌∷◌}
use Rattle.std.specs.Prelude.{if◌then◌else◌}
use Rattle.m2_fabric.specs.declared.socket.SocketId.{SocketId}
use Rattle.m2_feed.specs.Calls.{WritesOn}
use Rattle.m2_feed.specs.FeedNow.{FeedNow}
use Rattle.m2_feed.specs.FeedLaws.{PutsBeside, PutsKeep, StaysBeside, takes}
use Rattle.m2_feed.specs.Stands.{Stands}
use Rattle.m2_feed.specs.declared.answers.FeedWrite.{FeedWrite}
use Rattle.m2_feed.specs.declared.answers.FeedWrite.TheVariants as put
use Rattle.m2_journal.specs.Feeds.{finished, narrowed, told, texts_at}
use Rattle.m2_journal.specs.Items as item
use Rattle.m2_journal.specs.Lawful.{MayWrite}
use Rattle.m2_journal.specs.OutFrames.{OutFrame, is_unnamed}
use Rattle.m2_journal.specs.SideFacts.{SideFacts}
use Rattle.m2_journal.specs.State.{Feed, PartText, State}
use Rattle.m2_journal.specs.Steps as replay
use Rattle.m2_journal.specs.Steps.{after, puts, puts_on}
use Rattle.m2_shared.specs.declared.peer_grants.PeerGrants.{PeerGrants}
use Rattle.m2_core.specs.LiveNow.{LiveNow}
use Rattle.m2_core.specs.OnFeed.{WritesFeed}
use Rattle.m2_core.specs.LiveCalls.{live_with}
use Rattle.m2_core.proofs.Agreeing.{IsResumed, core_of, leads_by}
use Rattle.m2_core.proofs.Faulting.{is_on_feed}
use Rattle.m2_core.specs.Agrees.{Agrees, FeedsAgree, IsTold, Stays}
use Rattle.m2_core.specs.CoreNow.{CoreNow, Holds, IsSound}
use Rattle.m2_core.specs.Moves.{HasWritten, IsWrote, IsWroteOn, owes_after}

-- ---- what a text that is put leaves of the replay besides its feed

record Keeps (d : Feed) (s t : State) : Type 0 where
  session : t.session ≡ s.session
  queue : t.out.queue ≡ s.out.queue
  last : t.last ≡ s.last
  life : t.life ≡ s.life
  dials : t.dials ≡ s.dials
  top : t.top ≡ s.top
  told : (number : ℕ) → IsTold number (Some d) → IsTold number t.feed

sent_by : (b : Bool) (socket : SocketId) (w : OutFrame) (d : Feed) (s u : State) → Keeps d s u → Keeps d s (if b then replay.sends socket (w ∷ []) u else u)
sent_by true socket w d s u k = record { session = k.session; queue = k.queue; last = k.last; life = k.life; dials = k.dials; top = k.top; told = k.told }
sent_by false socket w d s u k = k

put_on : (o : Option PartText) (texts : List PartText) (d : Feed) (s : State) → Keeps d s (puts_on o texts d s)
put_on (Some t) texts d s = sent_by (is_unnamed t.frame) d.socket t.frame d s _
    (record { session = refl; queue = refl; last = refl; life = refl; dials = refl; top = refl; told = λ n h. h })
put_on None texts d s = record { session = refl; queue = refl; last = refl; life = refl; dials = refl; top = refl; told = λ n h. h }

carried : (r : ℕ) (x y : Option Feed) → (IsTold r x → IsTold r y) → IsResumed r x → IsResumed r y
carried r x y h (inl e) = inl e
carried r x y h (inr t) = inr (h t)

-- ---- bytes that are put

module _ (law : PutsKeep) (n : ℕ) (b : Bool) (v new : FeedNow) (w : WritesOn (put.Put n b) v new) where
  abbrev bytes : List ℕ
  bytes = take n v.composed

  beside : (f : SideFacts) (s : State) (d : Feed) → Stands f s v d → PutsBeside f s n b v new d
  beside f s d st = law f s n b v new d st w

  may_at : (f : SideFacts) (s : State) (y : Option Feed) → FeedsAgree f (record s { feed = y }) (Some v) y → MayWrite f (record s { feed = y }) v.end.id bytes
  may_at f s (Some d) st = (is_on_feed f (record s { feed = Some d }) v d st, (beside f (record s { feed = Some d }) d st).lawful)
  may_at f s None st = absurd st

  abbrev puts_it : CoreNow → CoreNow
  puts_it c = record c { live = live_with (Some new) c.live; owes = c.owes && not b }

  leads_at : (f : SideFacts) (s : State) (m r : ℕ) (g : PeerGrants) (y : Option Feed) → FeedsAgree f (record s { feed = y }) (Some v) y → IsResumed r y →
      Agrees (puts_it (core_of f (record s { feed = y }) m r (Some v) g)) (after f (item.wrote v.end.id bytes) (record s { feed = y }))
  leads_at f s m r g (Some d) st told =
      let t : State = record s { feed = Some d } in
      let p : PutsBeside f t n b v new d = beside f t d st in
      let k : Keeps d t (puts f bytes d t) = put_on (finished (narrowed bytes (texts_at f t d))) (narrowed bytes (texts_at f t d)) d t in
      record {
        session = sym k.session;
        queue = sym k.queue;
        last = sym k.last;
        life = sym k.life;
        owes = sym p.owes;
        dials = sym k.dials;
        top = sym k.top;
        feed = subst (λ z. FeedsAgree f (puts f bytes d t) (Some new) z) (sym p.fed) p.stands;
        resumed = carried r (Some d) (puts f bytes d t).feed (k.told r) told;
      }
  leads_at f s m r g None st told = absurd st

  has_put : (c : CoreNow) → IsWrote (put.Put n b) v (record c { live = live_with (Some v) c.live }) (puts_it (record c { live = live_with (Some v) c.live }))
  has_put c = (
    (λ s a. may_at c.facts s s.feed a.feed),
    leads_by puts_it (item.wrote v.end.id bytes) (record c { live = live_with (Some v) c.live }) (λ s st r. leads_at c.facts s c.live.out.spare c.live.resumed c.live.granted s.feed st r),
  )

-- ---- nothing is put

moved : StaysBeside → (f : SideFacts) (s : State) (answer : FeedWrite) (v new : FeedNow) (y : Option Feed) → takes answer ≡ false → WritesOn answer v new →
    FeedsAgree f s (Some v) y → FeedsAgree f s (Some new) y
moved law f s answer v new (Some d) e w st = law.write f s answer v new d st e w
moved law f s answer v new None e w st = st

stays : StaysBeside → (answer : FeedWrite) (c : CoreNow) (v new : FeedNow) → takes answer ≡ false → WritesOn answer v new →
    Stays (record c { live = live_with (Some v) c.live }) (record c { live = live_with (Some new) c.live })
stays law answer c v new e w s a = record {
  session = a.session;
  queue = a.queue;
  last = a.last;
  life = a.life;
  owes = a.owes;
  dials = a.dials;
  top = a.top;
  feed = moved law c.facts s answer v new s.feed e w a.feed;
  resumed = a.resumed;
}

-- ---- each answer

entry_on : PutsKeep → StaysBeside → (answer : FeedWrite) (c : CoreNow) (x y : Option FeedNow) → WritesFeed answer x y →
    IsWroteOn answer x (record c { live = live_with x c.live }) (record c { live = live_with y c.live; owes = owes_after answer c.owes })
entry_on puts moves (put.Put n b) c (Some v) (Some new) w = has_put puts n b v new w c
entry_on puts moves put.NotYet c (Some v) (Some new) w = stays moves put.NotYet c v new refl w
entry_on puts moves put.Failed c (Some v) (Some new) w = stays moves put.Failed c v new refl w
entry_on puts moves put.NoMemory c (Some v) (Some new) w = stays moves put.NoMemory c v new refl w
entry_on puts moves answer c None y w = absurd w
entry_on puts moves answer c (Some v) None w = absurd w

pub has_written : PutsKeep → StaysBeside → (answer : FeedWrite) (c : CoreNow) (y : Option FeedNow) → WritesFeed answer c.live.feed y →
    HasWritten answer c (record c { live = live_with y c.live; owes = owes_after answer c.owes })
has_written puts moves answer c y w = record { writes = w; only = refl; entry = entry_on puts moves answer c c.live.feed y w }

-- ---- what holds of each core

same_reading : (answer : FeedWrite) (v new : FeedNow) → WritesOn answer v new → new.reading ≡ v.reading
same_reading (put.Put n b) v new w = ap (λ x. x.reading) w.2
same_reading put.NotYet v new w = ap (λ x. x.reading) w.1
same_reading put.Failed v new w = ap (λ x. x.reading) w.1
same_reading put.NoMemory v new w = ap (λ x. x.reading) w

sound_on : (answer : FeedWrite) (l : LiveNow) (x y : Option FeedNow) → WritesFeed answer x y → IsSound (live_with x l) → IsSound (live_with y l)
sound_on answer l (Some v) (Some new) w h = record {
  fed = h.fed;
  asked = rw (same_reading answer v new w) h.asked;
  connect = h.connect;
  numbers = h.numbers;
  grant = rw (same_reading answer v new w) h.grant;
  told = rw (same_reading answer v new w) h.told;
  ungranted = h.ungranted;
}
sound_on answer l None y w h = absurd w
sound_on answer l (Some v) None w h = absurd w

pub keeps : (answer : FeedWrite) (c : CoreNow) (y : Option FeedNow) (owes : Bool) → Holds c → WritesFeed answer c.live.feed y →
    Holds (record c { live = live_with y c.live; owes = owes })
keeps answer c y owes h w = record { place = h.place; sound = sound_on answer c.live c.live.feed y w h.sound }
