-- So far what was taken out of the rest are these halves, unless memory ran out.
use Rattle.std.proofs.Common.{◌≡◌, false, List, ◌++◌, map}
use Rattle.m2_mailbox.specs.Passes.{puts_of, taken_of}
use Rattle.m2_mailbox.specs.Rest.{rest_puts, rest_taken}
use Rattle.m2_handover.specs.Handed.{OnItsWay, left_behind}
use Rattle.m2_handover.proofs.inboxes.close_inbox.Given as goal

abbrev pub invariant-left : goal.invariant-left
invariant-left g l = record {
  puts : rest_puts l.rest ≡ puts_of l.fn.put;
  all : l.is_full ≡ false → (left : List OnItsWay) × (l.halves.items ≡ map left_behind left) × (rest_taken l.rest ≡ taken_of l.fn.get ++ left);
}
