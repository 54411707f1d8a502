-- What follows where two sides of a link are woven into one order. This project's own.
use Rattle.std.specs.Prelude.{◌≢◌, ℕ, Bool, true, false, [], if◌then◌else◌, List, map}
use Rattle.m2_channel.specs.Observed.{Logs}
use Rattle.m2_channel.specs.ObservedLaws.{AreLogs}
use Rattle.m2_fabric.specs.declared.socket.SocketId.{SocketId}
use Rattle.m2_bytes_fit.specs.Ends.{got_at}
use Rattle.m2_bytes_fit.specs.Orders.{IsByteHistory, entries_of, far_side}
use Rattle.m2_history.specs.declared.history.History.{History}
use Rattle.m2_history.specs.Delivered.{AreDelivered, Kept}
use Rattle.m2_history.specs.Link.{both_of, parts_of}
use Rattle.m2_channel.specs.Lossy.{IsByteOrder}
use Rattle.m2_channel.specs.m2_never_reset.Orders.{AreNodes, IsHistory, IsNeverReset}
use Rattle.m2_record.specs.IsRecord.{IsRecord}
use Rattle.m2_record.specs.RecordNow.{RecordNow}
use Rattle.m2_trail.specs.Arrivals.{LooseNow}
use Rattle.m2_history.specs.Actors.{part_of}
use Rattle.m2_history.specs.WovenLink.{LinkNow, AreJoined, AreUp, IsLink, IsOrderOf, IsSideOf, order_of, sources_in}

-- ---- sides

-- every record is a side of a link
abbrev pub RecordsAreSides : Type 0
RecordsAreSides = (r : RecordNow) → IsRecord r → IsSideOf r.core.facts r.plan (parts_of r)

-- two records, with halves that neither took
abbrev pub link_of : (a b : RecordNow) → List LooseNow → LinkNow
link_of a b loose = record {
  facts = λ near. (if near then a else b).core.facts;
  plans = λ near. (if near then a else b).plan;
  both = both_of a b loose;
}

-- ---- an order that was found

-- Throughout an order of all that two sides and their halves did, by the rule of weaving, bytes fit; and where no node marks its
-- side down, the two journals in it are a history of bytes.
pub record BytesFitIn (l : LinkNow) (order : List ℕ) : Type 0 where
  pub fits : IsByteOrder (l.facts true) (l.facts false) (order_of l order)
  pub history : AreUp l → IsByteHistory (l.facts true) (l.facts false) (order_of l order)

abbrev pub WovenBytesFit : Type 0
WovenBytesFit = (l : LinkNow) (order : List ℕ) → IsLink l → IsOrderOf l order → BytesFitIn l order

-- so the two journals in it are a history, and where neither policy is lossy nothing was reset
pub record IsWovenSo (l : LinkNow) (order : List ℕ) : Type 0 where
  pub history : IsHistory (l.facts true) (l.facts false) (entries_of (order_of l order))
  pub never_reset : IsNeverReset (l.facts true) (l.facts false) (entries_of (order_of l order))

abbrev pub WovenIsNeverReset : Type 0
WovenIsNeverReset = (l : LinkNow) (order : List ℕ) → AreNodes (l.facts true) (l.facts false) → IsLink l → AreUp l → IsOrderOf l order → IsWovenSo l order

-- ---- what was posted and dispatched

abbrev pub kept_by : LinkNow → (near : Bool) → Kept
kept_by l near = record {
  plan = l.plans near;
  journal = (part_of l.both near).journal;
  sources = sources_in (l.plans near) (part_of l.both near);
}

-- from either side to the other, of each key what is dispatched is the first of what was posted
abbrev pub IsWovenDelivered : LinkNow → List ℕ → (near_logs far_logs : Logs) → Type 0
IsWovenDelivered l order near_logs far_logs =
    AreLogs (l.facts true) (l.facts false) (entries_of (order_of l order)) near_logs far_logs →
    AreDelivered (l.facts true) (l.facts false) (kept_by l true) (kept_by l false) near_logs far_logs

abbrev pub WovenIsDelivered : Type 0
WovenIsDelivered = (l : LinkNow) (order : List ℕ) (near_logs far_logs : Logs) → AreNodes (l.facts true) (l.facts false) → IsLink l → AreUp l → IsOrderOf l order →
    IsWovenDelivered l order near_logs far_logs

-- ---- what weaving gives of two records

-- the strands of a history, in its order
abbrev pub strands_in : History → List ℕ
strands_in h = map (λ s. s.strand) h.steps.items

-- of two lossless nodes that mark nothing down
pub record AreLossless (l : LinkNow) : Type 0 where
  pub nodes : AreNodes (l.facts true) (l.facts false)
  pub joined : AreJoined l
  pub up : AreUp l

abbrev pub IsUnreset : LinkNow → History → Type 0
IsUnreset l h = AreLossless l → IsNeverReset (l.facts true) (l.facts false) (entries_of (order_of l (strands_in h)))

abbrev pub IsDeliveredIn : LinkNow → (near_logs far_logs : Logs) → History → Type 0
IsDeliveredIn l near_logs far_logs h = AreLossless l → IsWovenDelivered l (strands_in h) near_logs far_logs

-- ---- there are such links

-- one with an order in which the far side has read something
pub record ALinkIsWoven : Type 0 where
  pub link : LinkNow
  pub order : List ℕ
  pub nodes : AreNodes (link.facts true) (link.facts false)
  pub is_link : IsLink link
  pub up : AreUp link
  pub is_order : IsOrderOf link order
  pub socket : SocketId
  pub read : got_at (far_side (link.facts false) (order_of link order)) socket ≢ []
