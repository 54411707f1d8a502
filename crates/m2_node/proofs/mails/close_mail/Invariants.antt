-- So far what was taken out of the rest was dispatched.
use Rattle.std.proofs.Common.{◌≡◌}
use Rattle.m2_mailbox.specs.Passes.{puts_of, taken_of}
use Rattle.m2_mailbox.specs.Rest.{rest_owner, rest_puts, rest_taken}
use Rattle.m2_node.proofs.Dispatched.{LeftSoFar}
use Rattle.m2_node.proofs.mails.close_mail.Given as goal

abbrev pub invariant-left : goal.invariant-left
invariant-left g l = record {
  owner : (rest_owner l.rest).of ≡ l.to.throttles;
  puts : rest_puts l.rest ≡ puts_of l.fn.put;
  so_far : LeftSoFar (taken_of l.fn.get) (rest_taken l.rest) l.fn.to l.to;
}
