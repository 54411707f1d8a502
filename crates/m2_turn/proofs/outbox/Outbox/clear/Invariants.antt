use Rattle.std.proofs.Common.{◌≡◌, ◌-◌}
use Rattle.std.specs.List.{AllByRecursion}
use Rattle.std.specs.VecDeque.{deque_len}
use Rattle.m2_dispatch.specs.Parcel.{IsOwned}
use Rattle.m2_record.specs.Calls.{all_granted}
use Rattle.m2_shared.specs.Place.{IsAlone}
use Rattle.m2_shared.specs.Gates.{ArePassesOf, Gate, places, words}
use Rattle.m2_turn.proofs.outbox.Outbox.clear.Given as goal

abbrev pub invariant-giving : goal.invariant-giving
invariant-giving g l = record {
  passes : ArePassesOf l.throttles l.passes;
  owned : AllByRecursion (IsOwned (places l.throttles)) l.mail.items;
  word : (gate : Gate) → IsAlone (places l.throttles gate) → words l.passes gate - all_granted l.mail.items gate ≡ words l.initial.passes gate - all_granted l.initial.mail.items gate;
}

abbrev pub decreases-giving : goal.decreases-giving
decreases-giving g l = deque_len l.mail
