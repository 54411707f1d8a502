-- What a side that has asked hears at the front of a feed, taken or obeyed.
use Rattle.std.specs.Prelude.{◌≡◌, ℕ, Bool, Option, Some, None, max}
use Rattle.m2_addr.specs.declared.addr.Addr.{Addr}
use Rattle.m2_feed.specs.FeedNow.{FeedNow}
use Rattle.m2_feed.specs.Front.{heard_at}
use Rattle.m2_feed.specs.Heard.{event_of}
use Rattle.m2_feed.specs.declared.heard.Heard.TheVariants as heard
use Rattle.m2_feed.specs.declared.heard.Heard.{Heard}
use Rattle.m2_policy.specs.declared.policy.Policy.{Policy}
use Rattle.m2_session.specs.declared.event.Event.TheVariants as event
use Rattle.m2_session.specs.declared.session.Phase.{Phase}
use Rattle.m2_shared.specs.Numbers.{SeenNumberPass}
use Rattle.m2_core.specs.LiveNow.{LiveNow}
use Rattle.m2_core.specs.Effects.{tells}
use Rattle.m2_core.specs.OnFeed.{PassesFeed}
use Rattle.m2_core.specs.LiveCalls.{live_with, tells_if}

-- what the frame at the front says
abbrev pub heard_on : Addr → Policy → Phase → Option FeedNow → Option Heard
heard_on peer policy phase (Some v) = heard_at peer policy phase v.reading
heard_on peer policy phase None = None

-- up to where a resumption acknowledges
abbrev pub resumed_by_answer : Heard → ℕ → ℕ
resumed_by_answer (heard.ReconnectOk seen) resumed = seen
resumed_by_answer _ resumed = resumed

-- what the session is told of an answer, with this feed behind it
abbrev pub after_answer : Heard → Option FeedNow → LiveNow → LiveNow
after_answer h x l = tells_if (event_of h) (record l { feed = x; resumed = resumed_by_answer h l.resumed })

-- an answer is taken: its frame is passed, and the session told
pub record TakesAnswer (h : Heard) (old new : LiveNow) : Type 0 where
  pub passed : Option FeedNow
  pub passes : PassesFeed old.feed passed
  pub live : new ≡ after_answer h passed old

-- the counter of global numbers is raised to a number that is told
abbrev pub raised_by : Option Heard → SeenNumberPass → SeenNumberPass
raised_by (Some (heard.RetryGlobal number)) pass = record pass { least = max pass.least number }
raised_by _ pass = pass

-- the reset at the front is passed, and the session is told of it
pub record ObeysReset (full : Bool) (old new : LiveNow) : Type 0 where
  pub passed : Option FeedNow
  pub passes : PassesFeed old.feed passed
  pub live : new ≡ tells (event.GotReset full) (live_with passed old)
