-- A feed's end hears news: the replay knows nothing of it.
use Rattle.std.proofs.Common.{ℕ, List, Option, Some, None, refl}
use Rattle.m2_fabric.specs.declared.end.News.{News}
use Rattle.m2_feed.specs.FeedNow.{FeedNow}
use Rattle.m2_feed.specs.FeedLaws.{StaysBeside}
use Rattle.m2_journal.specs.SideFacts.{SideFacts}
use Rattle.m2_journal.specs.State.{Feed, State}
use Rattle.m2_core.specs.LiveNow.{LiveNow}
use Rattle.m2_core.specs.OnFeed.{feed_after_news}
use Rattle.m2_core.specs.LiveCalls.{live_with}
use Rattle.m2_core.specs.Agrees.{FeedsAgree, Stays}
use Rattle.m2_core.specs.CoreNow.{CoreNow, Holds, IsSound}

heard : StaysBeside → (f : SideFacts) (s : State) (n : News) (bytes : List ℕ) (x : Option FeedNow) (d : Option Feed) → FeedsAgree f s x d → FeedsAgree f s (feed_after_news n bytes x) d
heard law f s n bytes (Some v) (Some d) h = law.end f s v _ d h refl refl
heard law f s n bytes (Some v) None h = h
heard law f s n bytes None d h = h

pub stays : StaysBeside → (n : News) (bytes : List ℕ) (c : CoreNow) → Stays c (record c { live = live_with (feed_after_news n bytes c.live.feed) c.live })
stays law n bytes c s a = record {
  session = a.session;
  queue = a.queue;
  last = a.last;
  life = a.life;
  owes = a.owes;
  dials = a.dials;
  top = a.top;
  feed = heard law c.facts s n bytes c.live.feed s.feed a.feed;
  resumed = a.resumed;
}

sound_on : (n : News) (bytes : List ℕ) (l : LiveNow) (x : Option FeedNow) → IsSound (live_with x l) → IsSound (live_with (feed_after_news n bytes x) l)
sound_on n bytes l (Some v) h = record { fed = h.fed; asked = h.asked; connect = h.connect; numbers = h.numbers; grant = h.grant; told = h.told; ungranted = h.ungranted }
sound_on n bytes l None h = h

pub keeps : (n : News) (bytes : List ℕ) (c : CoreNow) → Holds c → Holds (record c { live = live_with (feed_after_news n bytes c.live.feed) c.live })
keeps n bytes c h = record { place = h.place; sound = sound_on n bytes c.live c.live.feed h.sound }
