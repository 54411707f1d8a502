-- The message that the frame at the front brings is taken.
use Rattle.std.proofs.Common.{◌≡◌, ℕ, Option, Some, None, Result, Ok, Err, ap, ◌∙◌}
use Rattle.std.specs.Prelude.{OnErr}
use Rattle.m2_bytes.specs.declared.memory.NoMemory as memory
use Rattle.m2_feed.specs.Calls.{HasMessage, IsFront}
use Rattle.m2_feed.specs.FeedNow.{FeedNow, Reading}
use Rattle.m2_frame.specs.Frame.{Parts}
use Rattle.m2_frame.specs.Reading.{whole}
use Rattle.m2_feed.specs.declared.frame_heard.FrameHeard.TheVariants.{Brings}
use Rattle.m2_feed.specs.declared.hearer.Hearer.{Hearer}
use Rattle.m2_feed.specs.FrameHeard.{heard_of}
use Rattle.m2_feed.specs.FrameLaws.{BringsMessages}
use Rattle.m2_message.specs.declared.message.Message.{Message}
use Rattle.m2_core.specs.LiveNow.{OnFeedNow}
use Rattle.m2_core.specs.OnFeed.{Hears, TakesFeed}
use Rattle.m2_core.specs.LiveAccepting.{MovesIfOk}
use Rattle.m2_core.proofs.LiveFronts.{one_front}

-- it is a MESSAGE with a whole header
pub has_message : BringsMessages → (n : ℕ) (x : Option FeedNow) → ((h : Hearer) × OnFeedNow x (λ v. Hears h (Brings n) v.reading)) → OnFeedNow x (λ v. HasMessage v.reading)
has_message law n (Some v) k =
    let f = law k.0 k.1.frame n k.1.says in
    record { frame = k.1.frame; len = k.1.len; front = k.1.front; tag = f.tag; header = f.header }
has_message law n None k = absurd k.1

-- the frame that is passed is the one that was heard
same_says : (h : Hearer) (n : ℕ) (f : Parts) (r : Reading) (len : ℕ) → IsFront r (whole f) len → Hears h (Brings n) r → heard_of h (whole f) ≡ Brings n
same_says h n f r len front k = ap (heard_of h) (one_front r (whole f) (whole k.frame) len k.len front k.front).0 ∙ k.says

pub moves : (n : ℕ) (r : Result Message memory.NoMemory) (x y : Option FeedNow) → TakesFeed r x y →
    (h : Hearer) → OnFeedNow x (λ v. Hears h (Brings n) v.reading) → MovesIfOk r h n x y
moves n (Ok m) (Some v) (Some new) t h k =
    let p = t.0.1 in
    record {
      frame = t.0.0;
      says = same_says h n t.0.0 v.reading p.0 p.1 k;
      message = t.0.2;
      passes = (record { len = p.0; front = p.1; other = whole t.0.0; passes = p }, t.1);
    }
moves n (Err e) (Some v) (Some new) t h k = ap Some t
moves n r (Some v) None t h k = absurd t
moves n r None y t h k = absurd k

-- want of memory leaves all as it was
pub leaves : (r : Result Message memory.NoMemory) (x y : Option FeedNow) → TakesFeed r x y → OnErr r (y ≡ x)
leaves (Ok m) x y t = tt
leaves (Err e) (Some v) (Some new) t = ap Some t
leaves (Err e) (Some v) None t = absurd t
leaves (Err e) None y t = absurd t
