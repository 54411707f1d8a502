-- An ask of this side, composed on a feed.
use Rattle.std.specs.Prelude.{◌≡◌, ℕ, ◌≤◌, Bool, true, false, length, Result, OnOk}
use Rattle.m2_bytes.specs.declared.memory.NoMemory as memory
use Rattle.m2_control.specs.Control.{IsWritable, text_of}
use Rattle.m2_control.specs.declared.control.Control.TheVariants as control
use Rattle.m2_control.specs.declared.control.Control.{Control}
use Rattle.m2_feed.specs.FeedNow.{CanCompose}
use Rattle.m2_feed.specs.declared.composing.TheConstants.{IDENT_BYTES, RECONNECT_BYTES}
use Rattle.m2_frame.specs.declared.frame.TheConstants.{CONTROL_LIMIT}
use Rattle.m2_handshake.specs.Texts.{frame_text}
use Rattle.m2_session.specs.Steps.{step_of}
use Rattle.m2_session.specs.declared.event.Event.TheVariants as event
use Rattle.m2_session.specs.declared.event.Event.{Event}
use Rattle.m2_core.specs.LiveNow.{LiveNow, OnFeedNow}
use Rattle.m2_core.specs.OnFeed.{CanAsk, ChangesRoom, ComposesAsk}

-- the same ask with this cookie, where it is an ident, and this number
abbrev pub filled : (cookie number : ℕ) → Control → Control
filled cookie number (control.ClientIdent p) = control.ClientIdent (record p { global = number; cookie = cookie })
filled cookie number (control.SessionReconnect p) = control.SessionReconnect (record p { global = number })
filled cookie number c = c

-- how many bytes its payload has
abbrev pub ask_len : (by_ident : Bool) → ℕ
ask_len true = IDENT_BYTES
ask_len false = RECONNECT_BYTES

-- whatever its cookie and its number are, the ask can be written, and has so many bytes
pub record IsAsk (len : ℕ) (c : Control) : Type 0 where
  pub writable : (cookie number : ℕ) → IsWritable (filled cookie number c)
  pub size : (cookie number : ℕ) → length (text_of (filled cookie number c)) ≡ len
  pub short : len ≤ CONTROL_LIMIT

-- what the session is told
abbrev pub asked_event : (by_ident : Bool) → (cookie : ℕ) → Event
asked_event true cookie = event.AskedIdent cookie
asked_event false cookie = event.AskedReconnect

-- the room for an ask is made
pub record ReservesAsk (r : Result (Unit {0}) memory.NoMemory) (len : ℕ) (old new : LiveNow) : Type 0 where
  pub same : ChangesRoom old.feed new.feed
  pub can : OnFeedNow new.feed CanAsk
  pub room : OnOk r (OnFeedNow new.feed (λ v. CanCompose v len))
  pub only : new ≡ record old { feed = new.feed }

-- the session is told that it asks, and the ask is composed
pub record AsksNow (by_ident : Bool) (cookie number : ℕ) (c : Control) (old new : LiveNow) : Type 0 where
  pub session : new.session ≡ (step_of old.session (asked_event by_ident cookie)).session
  pub feed : ComposesAsk (frame_text (filled new.session.client_cookie number c)) old.feed new.feed
  pub only : new ≡ record old { session = new.session; feed = new.feed }
