-- Two sides, and the halves beside them, that tell of all that their ends have got and put. This project's own.
use Rattle.std.specs.Prelude.{◌≡◌, ◌+◌, length, map}
use Rattle.std.specs.List.{AllByRecursion, IsDistinct}
use Rattle.m2_fabric.specs.declared.socket.SocketId.{SocketId}
use Rattle.m2_history.specs.Link.{AreKept, IsWholeHalf}
use Rattle.m2_history.specs.Parts.{PartsNow}
use Rattle.m2_history.specs.Woven.{BothNow, ends_of}
use Rattle.m2_history.specs.m2_record.Sources.{log_at}
use Rattle.m2_links_go_on.specs.Records.{IsSide, RecordsGoOn}
use Rattle.m2_links_go_on.specs.Sides.{AreHalves, done_on, halves_of, woven_now}
use Rattle.m2_weave.specs.Later.{HadFlowed}
use Rattle.m2_weave.specs.declared.strand.StrandItem.TheVariants.{Noted}
use Rattle.m2_weave.specs.Strands.{read_by, total, written_by}
use Rattle.m2_history.specs.WovenLink.{same_end}

-- Of each socket a side's journal, with the half that it took there, tells of all bytes that its end has got and put.
pub record TellsAll (p : PartsNow) : Type 0 where
  pub got : (k : SocketId) → total (read_by k) (map Noted p.journal) + total (read_by k) (map Noted (done_on k p.trails)) ≡ length (log_at p.ends k).got
  pub put : (k : SocketId) → total (written_by k) (map Noted p.journal) + total (written_by k) (map Noted (done_on k p.trails)) ≡ length (log_at p.ends k).put

-- Both sides are kept by records, and tell all; loose halves are whole; no two halves are on one socket, and of each socket there
-- is one end of either kind.
pub record AreTold (x : BothNow) : Type 0 where
  pub near : TellsAll x.a
  pub far : TellsAll x.b
  pub near_side : IsSide x.a
  pub far_side : IsSide x.b
  pub halves : AreHalves (halves_of x)
  pub whole : AllByRecursion IsWholeHalf x.loose
  pub apart : IsDistinct same_end (ends_of x)

-- ---- a turn

-- Both records go on. Before the turn all that was got and put was told; and all that an end has got by the end of the turn the
-- other end had put before it. Behind the turn sides and halves are what records and halves keep.
pub record IsTurnOfRecords (old new : BothNow) : Type 0 where
  pub go_on : RecordsGoOn old new
  pub told : AreTold old
  pub flowed : HadFlowed (woven_now old) (woven_now new)
  pub kept : AreKept new
