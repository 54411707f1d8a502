use Rattle.std.proofs.Common.{◌≡◌, drop}
use Rattle.std.specs.List.{list_any}
use Rattle.m2_center.specs.RecordEnds.{has_end}
use Rattle.m2_center.proofs.record_ends.any_has_end.Given as goal

-- none of those so far
abbrev pub invariant-loop-side : goal.invariant-loop-side
invariant-loop-side g l = list_any (has_end l.id) (drop l.side-index l.records) ≡ list_any (has_end l.id) l.records
