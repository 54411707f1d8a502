-- What contracts see of a core: a record without its journal, plan and parcels. This project's own.
use Rattle.std.specs.Prelude.{◌≡◌, ℕ, ◌+◌, ◌<◌, ◌≤◌, Bool, false, not, Option, Some, None}
use Rattle.std.specs.Option.{is_some}
use Rattle.m2_session.specs.declared.cookie.TheConstants.{MOST_PLACES}
use Rattle.m2_session.specs.Dials as dials
use Rattle.m2_control.specs.declared.fields.TheConstants.{GREATEST_NUMBER}
use Rattle.m2_feed.specs.FeedNow.{FeedNow, is_framing}
use Rattle.m2_journal.specs.SideFacts.{SideFacts, absent}
use Rattle.m2_queues.specs.OutQueues.{last_number, new_queue}
use Rattle.m2_session.specs.declared.session.Phase.{Phase}
use Rattle.m2_session.specs.declared.session.Phase.TheVariants.{Connecting}
use Rattle.m2_session.specs.Phases as phase
use Rattle.m2_core.specs.LiveNow.{AreFor, HoldsNothing, LiveNow, asked_on, is_granted_on, is_ready, is_waiting}
use Rattle.m2_shared.specs.Gates.{is_whole, nothing_held}
use Rattle.m2_shared.specs.declared.peer_type.PeerType.{PeerType}

pub record CoreNow : Type 0 where
  -- what never changes
  pub facts : SideFacts
  pub live : LiveNow
  -- whether a message was accepted since one was acknowledged
  pub owes : Bool
  -- whether a dial is still to be made
  pub dials : Bool
  -- the greatest global number used
  pub top : ℕ

abbrev pub live_at_start : SideFacts → PeerType → LiveNow
live_at_start f peer = record {
  session = absent f;
  out = record { queue = new_queue (not f.policy.lossy); spare = 0 };
  last = 0;
  life = 0;
  resumed = 0;
  feed = None;
  granted = nothing_held peer;
}

-- towards a peer of this type
abbrev pub at_start : SideFacts → PeerType → CoreNow
at_start f peer = record { facts = f; live = live_at_start f peer; owes = false; dials = false; top = 0 }

-- ---- words

-- a dial is due
abbrev pub may_dial : CoreNow → Bool
may_dial c = dials.dials c.live.session (is_waiting c.live) c.dials

-- of a feed on which not both sides have signed: nothing was asked on it
abbrev pub IsAskedIfSigned : Phase → Option FeedNow → Type 0
IsAskedIfSigned p (Some v) = is_framing v.reading ≡ false → p ≡ Connecting
IsAskedIfSigned p None = Unit {0}

-- What holds of each core. There is a feed exactly in the phases that have one; numbers that are counted up have a next one;
-- and grants are held for the MESSAGE at the feed's front alone, in Ready alone; its decoder was told where each stage has granted.
pub record IsSound (l : LiveNow) : Type 0 where
  pub fed : is_some l.feed ≡ phase.is_among l.session.phase phase.with_feed
  pub asked : IsAskedIfSigned l.session.phase l.feed
  pub connect : l.session.connect ≤ GREATEST_NUMBER + 1
  pub numbers : last_number l.out.queue ≤ GREATEST_NUMBER
  pub grant : AreFor (asked_on l.feed) l.granted
  pub told : is_whole l.granted ≡ is_granted_on l.feed
  pub ungranted : is_ready l ≡ false → HoldsNothing l.granted

-- and cookies can be drawn
pub record Holds (c : CoreNow) : Type 0 where
  pub place : c.facts.node.number < MOST_PLACES
  pub sound : IsSound c.live
