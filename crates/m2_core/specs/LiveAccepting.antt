-- The message at the front of a feed, accepted.
use Rattle.std.specs.Prelude.{◌≡◌, ℕ, Option, Result, Ok, Err}
use Rattle.m2_bytes.specs.declared.memory.NoMemory as memory
use Rattle.m2_feed.specs.FeedNow.{FeedNow}
use Rattle.m2_frame.specs.Frame.{Parts}
use Rattle.m2_frame.specs.Reading.{whole}
use Rattle.m2_feed.specs.FrameHeard.{heard_of}
use Rattle.m2_feed.specs.declared.frame_heard.FrameHeard.TheVariants.{Brings}
use Rattle.m2_feed.specs.declared.hearer.Hearer.{Hearer}
use Rattle.m2_message.specs.Message.{Content, content_of}
use Rattle.m2_message.specs.declared.message.Message.{Message}
use Rattle.m2_message.specs.MessageFrame.{message_in}
use Rattle.m2_shared.specs.Gates.{nothing_held}
use Rattle.m2_shared.specs.declared.peer_grants.PeerGrants.{PeerGrants}
use Rattle.m2_core.specs.LiveNow.{LiveNow, OnFeedNow}
use Rattle.m2_core.specs.OnFeed.{Hears, PassesItem}

-- the message that the frame at the front brings is moved out of it
pub record MovesMessage (h : Hearer) (number : ℕ) (m : Content) (old new : Option FeedNow) : Type 0 where
  pub frame : Parts
  pub says : heard_of h (whole frame) ≡ Brings number
  pub message : m ≡ message_in frame
  pub passes : PassesItem (whole frame) old new

-- where memory lasts
abbrev pub MovesIfOk : Result Message memory.NoMemory → Hearer → ℕ → Option FeedNow → Option FeedNow → Type 0
MovesIfOk (Ok m) h number old new = MovesMessage h number (content_of m) old new
MovesIfOk (Err _) h number old new = new ≡ old

-- its number is the last accepted one, and nothing is held any more
abbrev pub accepted_live : ℕ → Option FeedNow → LiveNow → LiveNow
accepted_live number x l = record l { feed = x; last = number; granted = nothing_held l.granted.peer }

-- it is handed out, with what was held for it
abbrev pub LiveAccepts : Result (Message × PeerGrants) memory.NoMemory → (number : ℕ) → LiveNow → LiveNow → Type 0
LiveAccepts (Ok x) number old new =
    ((h : Hearer) → OnFeedNow old.feed (λ v. Hears h (Brings number) v.reading) → MovesMessage h number (content_of x.0) old.feed new.feed)
    × (old.granted ≡ x.1) × (new ≡ accepted_live number new.feed old)
LiveAccepts (Err _) number old new = new ≡ old
