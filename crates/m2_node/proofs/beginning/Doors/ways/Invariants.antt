-- So many ways are made, by which nothing was put, and what the others are made of is there.
use Rattle.std.specs.Prelude.{slice_get}
use Rattle.std.proofs.Common.{◌-◌, ◌++◌, List}
use Rattle.std.specs.List.{AllByRecursion}
use Rattle.m2_node.specs.Begins.{AreDoorsAmid, AreDoorsOf, IsNewWay}
use Rattle.m2_node.specs.Rooms.{HomeAt, homes_from}
use Rattle.m2_node.proofs.beginning.Doors.ways.Given as goal

abbrev pub invariant-centers : goal.invariant-centers
invariant-centers g l = record {
  doors : (rest : List HomeAt) → AreDoorsOf (slice_get g.B.Inboxes.inboxes) (homes_from 0 l.centers l.centers ++ rest) l.fn.self →
      AreDoorsAmid (slice_get g.B.Inboxes.inboxes) (homes_from 0 l.center l.centers) (homes_from l.center (l.centers - l.center) l.centers ++ rest) l.self;
  new : AllByRecursion IsNewWay l.ways.items;
}
