-- What passing a text at the front, of which no entry is made, leaves of a core.
use Rattle.std.specs.Prelude.{◌≡◌, Option, Some, Result, Ok, Err}
use Rattle.m2_bytes.specs.declared.memory.NoMemory as memory
use Rattle.m2_control.specs.declared.keepalive.Keepalive.{Keepalive}
use Rattle.m2_feed.specs.Calls.{NotesStamp}
use Rattle.m2_feed.specs.FeedNow.{FeedNow}
use Rattle.m2_frame.specs.Reading.{Item}
use Rattle.m2_feed.specs.declared.frame_heard.FrameHeard.{FrameHeard}
use Rattle.m2_feed.specs.declared.frame_heard.FrameHeard.TheVariants.{Nothing, Stamp}
use Rattle.m2_feed.specs.declared.hearer.Hearer.{Hearer}
use Rattle.m2_feed.specs.FrameHeard.{heard_of}
use Rattle.m2_core.specs.OnFeed.{Hears, PassesItem}
use Rattle.m2_core.specs.LiveCalls.{passed_live}
use Rattle.m2_core.specs.Agrees.{Stays}
use Rattle.m2_core.specs.CoreNow.{CoreNow}
use Rattle.m2_core.specs.Front.{hearer_of}

-- ---- the feed

-- what said this is passed
pub record PassesHeard (h : Hearer) (heard : FrameHeard) (old new : Option FeedNow) : Type 0 where
  pub item : Item
  pub says : heard_of h item ≡ heard
  pub passes : PassesItem item old new

-- a keepalive is passed, and its stamp stands behind those that aren't answered
abbrev pub StampsFeed : Hearer → Keepalive → Option FeedNow → Option FeedNow → Type 0
StampsFeed h k (Some old) (Some new) = Hears h (Stamp k) old.reading × NotesStamp (Ok tt) k old new
StampsFeed h k _ _ = ⊥

-- ---- the core

pub record HasPassed (before after : CoreNow) : Type 0 where
  pub passes : PassesHeard (hearer_of before) Nothing before.live.feed after.live.feed
  pub only : after ≡ record before { live = passed_live after.live.feed before.live }
  pub stays : Stays before after

pub record HasStamped (k : Keepalive) (before after : CoreNow) : Type 0 where
  pub stamps : StampsFeed (hearer_of before) k before.live.feed after.live.feed
  pub only : after ≡ record before { live = passed_live after.live.feed before.live }
  pub stays : Stays before after

-- for want of memory all is as it was
abbrev pub HasNoted : Result (Unit {0}) memory.NoMemory → Keepalive → (before after : CoreNow) → Type 0
HasNoted (Ok _) k before after = HasStamped k before after
HasNoted (Err _) k before after = after ≡ before
