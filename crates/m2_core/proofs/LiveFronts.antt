-- What stands at the front of a feed.
use Rattle.std.proofs.Common.{◌≡◌, ℕ, sym, ◌∙◌}
use Rattle.m2_feed.specs.Calls.{IsFront}
use Rattle.m2_feed.specs.FeedNow.{Reading, framing, shaking}
use Rattle.m2_frame.specs.Frame.{Parts}
use Rattle.m2_frame.specs.Reading.{Item, whole}
use Rattle.m2_frame.proofs.Cutting.{same_text}
use Rattle.m2_feed.specs.declared.frame_heard.FrameHeard.{FrameHeard}
use Rattle.m2_feed.specs.declared.hearer.Hearer.{Hearer}
use Rattle.m2_feed.specs.FrameHeard.{heard_of}
use Rattle.m2_core.specs.OnFeed.{Hears}

-- one item alone stands at a front
pub one_front : (r : Reading) (i j : Item) (n m : ℕ) → IsFront r i n → IsFront r j m → (i ≡ j) × (n ≡ m)
one_front (framing rest granted) i j n m h k = same_text i j n m (sym h.1 ∙ k.1)
one_front (shaking s) i j n m h k = absurd h

-- a frame that stands there is heard
pub hears : (h : Hearer) (heard : FrameHeard) (f : Parts) (r : Reading) → ((len : ℕ) × IsFront r (whole f) len) → heard ≡ heard_of h (whole f) → Hears h heard r
hears h heard f r k e = record { frame = f; len = k.0; front = k.1; says = sym e }
