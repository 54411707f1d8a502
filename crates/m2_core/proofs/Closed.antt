-- A frame that is passed leaves the end as it was.
use Rattle.std.proofs.Common.{◌≡◌, Bool, true, false, Option, Some, None, refl, ap}
use Rattle.m2_fabric.specs.End.{after_closing}
use Rattle.m2_feed.specs.Calls.{OnlyReads}
use Rattle.m2_feed.specs.FeedNow.{FeedNow}
use Rattle.m2_core.specs.Effects.{closed_if}
use Rattle.m2_core.specs.OnFeed.{PassesFeed}

-- the end is that of the feed before
same_end : (b : Bool) (v new : FeedNow) → OnlyReads v new → closed_if b (Some new) ≡ closed_if b (Some v)
same_end true v new o = ap (λ (z : FeedNow). Some (after_closing z.end)) o
same_end false v new o = refl

pub closed_same : (b : Bool) (x y : Option FeedNow) → PassesFeed x y → closed_if b y ≡ closed_if b x
closed_same b (Some v) (Some new) p = same_end b v new p.1
closed_same b None y p = absurd p
closed_same b (Some v) None p = absurd p
