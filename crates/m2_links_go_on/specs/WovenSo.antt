-- What is known of two records whose strands have an order, whoever has run them.
use Rattle.m2_history.specs.Delivered.{CountsAreOfTheItems}
use Rattle.m2_history.specs.HalfStrands.{OrdersGivePoints}
use Rattle.m2_history.specs.Lossy.{WovenComesInOrder}
use Rattle.m2_history.specs.Marked.{WovenIsARunToAMark}
use Rattle.m2_history.specs.WovenLaws.{RecordsAreSides, WovenBytesFit, WovenIsDelivered, WovenIsNeverReset}
use Rattle.m2_weave.specs.WeaveLaws.{AsksComeFirst, ReadWasWritten}

-- Two records are sides of a link as weaving has them. In an order of their strands what was read had been written, and asks come
-- before their judgements; each point of it is told by both; and bytes fit throughout it. Of a lossless link nothing is reset, up to the first mark-down where there
-- is one, and what was dispatched is the first of what was posted; of a lossy one it is some of that.
pub record LinksAreWovenSo : Type 0 where
  pub sides : RecordsAreSides
  pub read : ReadWasWritten
  pub asked : AsksComeFirst
  pub points : OrdersGivePoints
  pub counts : CountsAreOfTheItems
  pub bytes_fit : WovenBytesFit
  pub never_reset : WovenIsNeverReset
  pub delivered : WovenIsDelivered
  pub to_a_mark : WovenIsARunToAMark
  pub in_order : WovenComesInOrder
