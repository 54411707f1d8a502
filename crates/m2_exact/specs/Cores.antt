-- One read and one write of each of two cores that are alike but for room, where their feeds' ends are in memory. This
-- project's own.
use Rattle.std.specs.Prelude.{◌≡◌, ◌≢◌, Option, IfSome}
use Rattle.std.specs.Option.{option_map}
use Rattle.m2_fabric.specs.Kinds.{IsInMemory}
use Rattle.m2_fabric.specs.declared.end.EndRead.TheVariants as read
use Rattle.m2_script.specs.m2_center.m2_feed.FeedNow.{FeedNow}
use Rattle.m2_script.specs.m2_center.m2_feed.declared.answers.FeedWrite.{FeedWrite}
use Rattle.m2_script.specs.m2_center.m2_feed.declared.answers.FeedWrite.TheVariants as put
use Rattle.m2_script.specs.m2_center.m2_core.LiveCalls.{live_with}
use Rattle.m2_script.specs.m2_center.m2_core.CoreNow.{CoreNow}
use Rattle.m2_script.specs.m2_center.m2_core.Hearing.{HasRead, ReadNow}
use Rattle.m2_script.specs.m2_center.m2_core.Moves.{HasWritten}

-- but for room
abbrev pub roomless_feed : FeedNow → FeedNow
roomless_feed v = record v { room = record { payload = 0; text = 0 } }

abbrev pub roomless : CoreNow → CoreNow
roomless c = record c { live = live_with (option_map roomless_feed c.live.feed) c.live }

-- a feed's end, where there is a feed, is in memory
abbrev pub OnMemory : Option FeedNow → Type 0
OnMemory x = IfSome x (λ v. IsInMemory v.end)

abbrev pub FeedIsInMemory : CoreNow → Type 0
FeedIsInMemory c = OnMemory c.live.feed

-- Two cores that are alike but for room answer alike, and stay alike, over ends in memory. What two reads of one core leave is
-- one in room too.
pub record LikeCoresReadAndWriteAlike : Type 0 where
  pub writes : (one other : FeedWrite) (c d new behind : CoreNow) → FeedIsInMemory c → roomless c ≡ roomless d → one ≢ put.NoMemory → other ≢ put.NoMemory →
      HasWritten one c new → HasWritten other d behind → (one ≡ other) × (roomless new ≡ roomless behind)
  pub reads : (one other : ReadNow) (c d new behind : CoreNow) → FeedIsInMemory c → roomless c ≡ roomless d → one.answer ≢ read.NoMemory → other.answer ≢ read.NoMemory →
      HasRead one c new → HasRead other d behind → (one ≡ other) × (roomless new ≡ roomless behind)
  pub reads_of_one : (one other : ReadNow) (c new behind : CoreNow) → FeedIsInMemory c → one.answer ≢ read.NoMemory → other.answer ≢ read.NoMemory →
      HasRead one c new → HasRead other c behind → new ≡ behind
  pub written_stays : (answer : FeedWrite) (c new : CoreNow) → FeedIsInMemory c → HasWritten answer c new → FeedIsInMemory new
  pub read_stays : (answer : ReadNow) (c new : CoreNow) → FeedIsInMemory c → HasRead answer c new → FeedIsInMemory new
