-- What was moved and what will be comes to the same, and so does what the pass would come to.
use Rattle.std.proofs.Common.{◌≡◌, ◌-◌, ◌≤◌, ◌++◌, length}
use Rattle.m2_queues.proofs.ByRank.{Falls}
use Rattle.m2_shared.specs.Place.{IsAlone}
use Rattle.m2_shared.specs.Gates.{ArePassesOf, Gate, places, words}
use Rattle.m2_dispatch.specs.Letters.{AreOwned, granted, letter_priority, of_peer, others}
use Rattle.m2_dispatch.specs.Waiting.{IsOrdered, letters_in}
use Rattle.m2_dispatch.proofs.thrown.sift.Given as goal

abbrev pub invariant-letters : goal.invariant-letters
invariant-letters l = record {
  ordered : IsOrdered l.from.items;
  moved : IsOrdered l.into.items;
  falls : Falls letter_priority (letters_in l.into.items ++ letters_in l.from.items);
  room : length (letters_in l.from.items) ≤ l.into.room;
  passes : ArePassesOf l.throttles l.passes;
  owned : AreOwned (places l.throttles) (letters_in l.from.items);
  letters : letters_in l.into.items ++ others l.peer (letters_in l.from.items) ≡ others l.peer (letters_in l.initial.from.items);
  word : (gate : Gate) → IsAlone (places l.throttles gate)
      → words l.passes gate - granted (of_peer l.peer (letters_in l.from.items)) gate ≡ words l.initial.passes gate - granted (of_peer l.peer (letters_in l.initial.from.items)) gate;
}

abbrev pub decreases-letters : goal.decreases-letters
decreases-letters l = length (letters_in l.from.items)
