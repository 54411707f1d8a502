-- None of those so far is one.
use Rattle.std.proofs.Common.{◌≡◌, drop}
use Rattle.std.specs.List.{list_any}
use Rattle.m2_script.specs.Ways.{is_down_to}
use Rattle.m2_script.proofs.ways.is_down_towards.Given as goal

abbrev pub invariant-loop-side : goal.invariant-loop-side
invariant-loop-side g l = list_any (is_down_to l.to) (drop l.side-index l.records) ≡ list_any (is_down_to l.to) l.records
