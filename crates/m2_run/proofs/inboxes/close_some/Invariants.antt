-- What is left of the rights is all rights to what is left of the inboxes, and what was left over of the others stands last.
use Rattle.std.proofs.Common.{◌≡◌, drop, length, reverse}
use Rattle.m2_run.specs.Closing.{AreAllRightsTo}
use Rattle.m2_run.proofs.Closes.{IsLeftSoFar}
use Rattle.m2_run.proofs.inboxes.close_some.Given as goal

abbrev pub invariant-threads : goal.invariant-threads
invariant-threads g l = record {
  rights : AreAllRightsTo (reverse l.inboxes.items) (reverse l.puts.items) (reverse l.gets.items);
  over : IsLeftSoFar l.fn.into.items l.into.items l.fn.rights.puts.items (reverse l.puts.items) l.fn.rights.gets.items (reverse l.gets.items);
  left : drop (length l.gets.items) (reverse l.inboxes.items) ≡ drop (length l.fn.rights.gets.items) (reverse l.fn.inboxes.items);
}

abbrev pub decreases-threads : goal.decreases-threads
decreases-threads g l = length l.gets.items
