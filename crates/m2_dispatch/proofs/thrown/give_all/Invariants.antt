-- What waits is owned, and what the pass would come to stays the same.
use Rattle.std.proofs.Common.{◌≡◌, ◌-◌, length}
use Rattle.m2_shared.specs.Place.{IsAlone}
use Rattle.m2_shared.specs.Gates.{ArePassesOf, Gate, places, words}
use Rattle.m2_dispatch.specs.Letters.{AreOwned, granted}
use Rattle.m2_dispatch.specs.Waiting.{IsOrdered, letters_in}
use Rattle.m2_dispatch.proofs.thrown.give_all.Given as goal

abbrev pub invariant-letters : goal.invariant-letters
invariant-letters l = record {
  ordered : IsOrdered l.waiting.items;
  passes : ArePassesOf l.throttles l.passes;
  owned : AreOwned (places l.throttles) (letters_in l.waiting.items);
  word : (gate : Gate) → IsAlone (places l.throttles gate)
      → words l.passes gate - granted (letters_in l.waiting.items) gate ≡ words l.initial.passes gate - granted (letters_in l.initial.waiting.items) gate;
}

abbrev pub decreases-letters : goal.decreases-letters
decreases-letters l = length (letters_in l.waiting.items)
