use Rattle.std.proofs.Common.{◌≡◌, ◌-◌}
use Rattle.std.specs.List.{AllByRecursion}
use Rattle.std.specs.VecDeque.{deque_len}
use Rattle.m2_dispatch.specs.Parcel.{IsOwned}
use Rattle.m2_record.specs.Calls.{all_granted}
use Rattle.m2_shared.specs.Place.{IsAlone}
use Rattle.m2_shared.specs.Gates.{ArePassesOf, Gate, places, words}
use Rattle.m2_record.proofs.ending.give_all.Given as goal

abbrev pub invariant-giving : goal.invariant-giving
invariant-giving l = ArePassesOf l.throttles l.passes × AllByRecursion (IsOwned (places l.throttles)) l.parcels.items
    × ((gate : Gate) → IsAlone (places l.throttles gate) → words l.passes gate - all_granted l.parcels.items gate ≡ words l.initial.passes gate - all_granted l.initial.parcels.items gate)

abbrev pub decreases-giving : goal.decreases-giving
decreases-giving l = deque_len l.parcels
