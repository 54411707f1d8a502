-- What the types of a node say of it. This project's own.
use Rattle.std.specs.Prelude.{◌<◌, ◌^◌, List}
use Rattle.std.specs.List.{AllByRecursion}
use Rattle.m2_node.specs.m2_script.m2_center.Center.{CenterNow, IsCenter}
use Rattle.m2_dispatch.specs.declared.logged.Logged.{Logged}
use Rattle.m2_journal.specs.SideFacts.{SideFacts}
use Rattle.m2_journal.specs.m2_control.Laws.{HasAddrRanges}
use Rattle.m2_node.specs.m2_links_go_on.m2_history.Link.{IsWholeHalf}
use Rattle.m2_node.specs.m2_links_go_on.Left.{IsSeen}
use Rattle.m2_node.specs.m2_script.m2_record.IsRecord.{IsRecord}
use Rattle.m2_node.specs.m2_script.m2_record.RecordNow.{RecordNow}
use Rattle.m2_trail.specs.Trails.{TrailNow, opener_of}
use Rattle.m2_node.specs.Nodes.{KeptNow, loose_at}

-- What a node tells a record and the addresses of both nodes keep the ranges of their types. That its own address is one of msgr2, and
-- its place one of those that cookies have, no type says.
pub record HasSideRanges (f : SideFacts) : Type 0 where
  pub entity : f.node.entity < 2 ^ 8
  pub mine : HasAddrRanges f.mine
  pub peer : HasAddrRanges f.peer
  pub supports : f.node.supports < 2 ^ 64
  pub requires_ : f.node.requires_ < 2 ^ 64

-- the opener of a half's socket does
abbrev pub HasOpenerRanges : TrailNow → Type 0
HasOpenerRanges t = HasAddrRanges (opener_of t.socket)

-- what a record was made of does, and the openers of the halves that it took
pub record IsRanged (r : RecordNow) : Type 0 where
  pub ranges : HasSideRanges r.core.facts
  pub seen : AllByRecursion HasOpenerRanges r.trails

-- it is a center, and its records are records, which are named within the ranges of their types
pub record IsCenterOfTypes (c : CenterNow (List Logged)) : Type 0 where
  pub center : IsCenter c
  pub records : AllByRecursion IsRecord c.records
  pub ranged : AllByRecursion IsRanged c.records

-- so is each center of a node; and the halves that no record took are what their bytes make them, and are named so too
pub record IsOfTypes (n : KeptNow) : Type 0 where
  pub centers : AllByRecursion IsCenterOfTypes n.node.centers
  pub whole : AllByRecursion IsWholeHalf (loose_at n)
  pub seen : AllByRecursion IsSeen (loose_at n)
