-- What writing the feed's end leaves of a core.
use Rattle.std.specs.Prelude.{◌≡◌, ◌&&◌, not, Bool, take, Option, Some, None}
use Rattle.m2_feed.specs.FeedNow.{FeedNow}
use Rattle.m2_feed.specs.declared.answers.FeedWrite.{FeedWrite}
use Rattle.m2_feed.specs.declared.answers.FeedWrite.TheVariants as put
use Rattle.m2_journal.specs.Items as item
use Rattle.m2_core.specs.OnFeed.{WritesFeed}
use Rattle.m2_core.specs.LiveCalls.{live_with}
use Rattle.m2_core.specs.Agrees.{LeadsOn, MayCome, Stays}
use Rattle.m2_core.specs.CoreNow.{CoreNow}

-- what is owed after a write
abbrev pub owes_after : FeedWrite → Bool → Bool
owes_after (put.Put n acknowledged) owes = owes && not acknowledged
owes_after _ owes = owes

-- The bytes that were put are those of an entry that may come and leads on; where none were put there is no entry.
abbrev pub IsWrote : FeedWrite → FeedNow → (before after : CoreNow) → Type 0
IsWrote (put.Put n acknowledged) v before after =
    MayCome (item.wrote v.end.id (take n v.composed)) before × LeadsOn (item.wrote v.end.id (take n v.composed)) before after
IsWrote _ v before after = Stays before after

abbrev pub IsWroteOn : FeedWrite → Option FeedNow → (before after : CoreNow) → Type 0
IsWroteOn answer (Some v) before after = IsWrote answer v before after
IsWroteOn answer None before after = ⊥

pub record HasWritten (answer : FeedWrite) (before after : CoreNow) : Type 0 where
  pub writes : WritesFeed answer before.live.feed after.live.feed
  pub only : after ≡ record before { live = live_with after.live.feed before.live; owes = owes_after answer before.owes }
  pub entry : IsWroteOn answer before.live.feed before after
