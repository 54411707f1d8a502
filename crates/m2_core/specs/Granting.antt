-- What asking for the grants of a MESSAGE leaves of a core.
use Rattle.std.specs.Prelude.{◌≡◌, ℕ}
use Rattle.m2_shared.specs.Gates.{AsksPeer}
use Rattle.m2_shared.specs.declared.more.More.{More}
use Rattle.m2_shared.specs.declared.more.More.TheVariants as more
use Rattle.m2_shared.specs.declared.peer_grants.PeerGrants.{PeerGrants}
use Rattle.m2_shared.specs.declared.throttles.TakePasses.{TakePasses}
use Rattle.m2_shared.specs.declared.throttles.Throttles.{Throttles}
use Rattle.m2_core.specs.LiveNow.{LiveNow}
use Rattle.m2_core.specs.OnFeed.{granted_feed}
use Rattle.m2_core.specs.Agrees.{Stays}
use Rattle.m2_core.specs.CoreNow.{CoreNow}

-- a node's throttles, and a thread's passes of them as a call finds and leaves them
pub record Throttled : Type 0 where
  pub throttles : Throttles
  pub before : TakePasses
  pub behind : TakePasses

-- this is held for the MESSAGE at the front; where each stage has granted, the decoder is told
abbrev pub after_asked : More → PeerGrants → LiveNow → LiveNow
after_asked more.Whole g l = record l { feed = granted_feed l.feed; granted = g }
after_asked (more.Full stage held) g l = record l { granted = g }
after_asked (more.Again stage seen now) g l = record l { granted = g }

-- what was missing for a MESSAGE of n bytes was asked for, with this answer
pub record AsksMissing (answer : More) (t : Throttled) (n : ℕ) (before after : LiveNow) : Type 0 where
  pub asks : AsksPeer answer n t.throttles t.before t.behind before.granted after.granted
  pub only : after ≡ after_asked answer after.granted before

-- the same of a core, and the replay stays
pub record HasAsked (answer : More) (t : Throttled) (n : ℕ) (before after : CoreNow) : Type 0 where
  pub asks : AsksPeer answer n t.throttles t.before t.behind before.live.granted after.live.granted
  pub only : after ≡ record before { live = after_asked answer after.live.granted before.live }
  pub stays : Stays before after
