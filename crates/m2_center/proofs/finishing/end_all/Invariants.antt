use Rattle.m2_shared.specs.Gates.{ArePassesOf, places}
use Rattle.std.proofs.Common.{length}
use Rattle.m2_center.specs.Finishing.{AllOwn}
use Rattle.m2_center.proofs.finishing.end_all.Given as goal

-- the passes are of the throttles by which all that is left was granted
abbrev pub invariant-ends : goal.invariant-ends
invariant-ends g l = ArePassesOf l.throttles l.passes × AllOwn (places l.throttles) l.records.items

abbrev pub decreases-ends : goal.decreases-ends
decreases-ends g l = length l.records.items
