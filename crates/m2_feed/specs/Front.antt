-- What stands at the front of a feed, and what it says to a side that has asked.
use Rattle.std.specs.Prelude.{ℕ, Option, Some, None, option_map}
use Rattle.m2_addr.specs.declared.addr.Addr.{Addr}
use Rattle.m2_feed.specs.FeedNow.{Reading, shaking, framing}
use Rattle.m2_frame.specs.Frame.{Parts}
use Rattle.m2_frame.specs.Reading.{Front, whole, text, judge, owed_at}
use Rattle.m2_policy.specs.declared.policy.Policy.{Policy}
use Rattle.m2_session.specs.declared.event.Event.{Event}
use Rattle.m2_session.specs.declared.session.Phase.{Phase}
use Rattle.m2_feed.specs.declared.heard.Heard.{Heard}
use Rattle.m2_feed.specs.Heard.{event_of, heard_in}

abbrev pub frame_at : (owed : Option ℕ) → Front → Option Parts
frame_at None (text (whole x) len) = Some x
frame_at _ _ = None

-- the whole frame at the front, where no size is asked for and not granted
abbrev pub frame_of : Reading → Option Parts
frame_of (framing rest granted) = frame_at (owed_at rest granted) (judge rest)
frame_of (shaking s) = None

abbrev pub heard_at : (peer : Addr) → Policy → Phase → Reading → Option Heard
heard_at peer policy phase r = option_map (heard_in peer policy phase) (frame_of r)

-- what the session is told of it
abbrev pub event_in : Option Heard → Option Event
event_in (Some h) = event_of h
event_in None = None
