-- The mails so far are closed, and there is room for the workers of those that are left; there is one less each time.
use Rattle.std.proofs.Common.{◌≡◌, ◌-◌, ◌≤◌, length, reverse}
use Rattle.std.specs.Prelude.{vec_capacity, vec_len}
use Rattle.m2_node.proofs.MailsClosed.{ClosedSoFar}
use Rattle.m2_node.proofs.posts.close_each.Given as goal

abbrev pub invariant-mails : goal.invariant-mails
invariant-mails g l = record {
  so_far : ClosedSoFar (reverse l.fn.gets.items) (reverse l.gets.items) (reverse l.fn.mails.items) (reverse l.mails.items) (reverse l.fn.senders.items) (reverse l.senders.items) l.fn.workers.items
      l.workers.items l.fn.dispatcher l.dispatcher;
  room : vec_len l.gets ≤ vec_capacity l.workers - vec_len l.workers;
  capacity : vec_capacity l.workers ≡ vec_capacity l.fn.workers;
}

abbrev pub decreases-mails : goal.decreases-mails
decreases-mails g l = length l.gets.items
