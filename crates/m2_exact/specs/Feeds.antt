-- What a feed whose end is in memory reads and writes, as functions of what is seen of it. This project's own.
use Rattle.std.specs.Prelude.{◌≡◌, ◌≢◌, length, Some}
use Rattle.m2_fabric.specs.End.{Inflow}
use Rattle.m2_fabric.specs.Exact.{after_read_of, after_write_of, read_of, write_of}
use Rattle.m2_fabric.specs.declared.end.EndRead.{EndRead}
use Rattle.m2_fabric.specs.declared.end.EndRead.TheVariants as read
use Rattle.m2_fabric.specs.declared.end.EndWrite.{EndWrite}
use Rattle.m2_fabric.specs.declared.end.EndWrite.TheVariants as write
use Rattle.m2_script.specs.m2_center.m2_feed.Calls.{ReadsOn, WritesOn, after_put, heard_of, pays}
use Rattle.m2_script.specs.m2_center.m2_feed.FeedNow.{FeedNow}
use Rattle.m2_script.specs.m2_center.m2_feed.declared.answers.FeedWrite.{FeedWrite}
use Rattle.m2_script.specs.m2_center.m2_feed.declared.answers.FeedWrite.TheVariants as put
use Rattle.m2_script.specs.m2_center.m2_feed.declared.feed.TheConstants.{MOST_READ}

-- ---- a read

abbrev pub read_by : Inflow → FeedNow → EndRead
read_by i v = read_of v.end.left i MOST_READ

-- a feed whose end answered so
abbrev pub with_answer : EndRead → Inflow → FeedNow → FeedNow
with_answer answer i v = record v { end = after_read_of answer i v.end; reading = heard_of answer i.readable v.reading }

-- ---- a write

abbrev pub write_by : Inflow → FeedNow → EndWrite
write_by i v = write_of v.end.left i (length v.composed)

abbrev pub put_by : EndWrite → FeedNow → FeedWrite
put_by (write.Put n) v = put.Put n (pays n v)
put_by write.NotYet v = put.NotYet
put_by write.Failed v = put.Failed
put_by write.NoMemory v = put.NoMemory

abbrev pub after_putting : EndWrite → FeedNow → FeedNow
after_putting (write.Put n) v = record (after_put n v) { end = after_write_of (write.Put n) v.composed v.end }
after_putting answer v = record v { end = after_write_of answer v.composed v.end }

-- ---- both

pub record FeedsAnswerByWhatIsSeen : Type 0 where
  pub reads : (answer : EndRead) (i : Inflow) (v new : FeedNow) → v.end.inflow ≡ Some i → answer ≢ read.NoMemory → ReadsOn answer v new →
      (answer ≡ read_by i v) × (new ≡ with_answer (read_by i v) i v)
  pub writes : (answer : FeedWrite) (i : Inflow) (v new : FeedNow) → v.end.inflow ≡ Some i → answer ≢ put.NoMemory → WritesOn answer v new →
      (answer ≡ put_by (write_by i v) v) × (new ≡ record (after_putting (write_by i v) v) { room = new.room })
