-- The mails of the first nodes are closed, and there is room for the workers and dispatchers of the others.
use Rattle.std.proofs.Common.{◌-◌, ◌≤◌, reverse}
use Rattle.std.specs.Prelude.{vec_capacity, vec_len}
use Rattle.m2_node.proofs.MailsClosed.{ServersClosed}
use Rattle.m2_node.proofs.posts.close_servers.Given as goal

abbrev pub invariant-nodes : goal.invariant-nodes
invariant-nodes g l = record {
  closed : ServersClosed l.nodes l.shares l.counter (reverse l.fn.posts.mails.items) (reverse l.mails.items) (reverse l.fn.posts.senders.items) (reverse l.senders.items) (reverse l.servers.items)
      l.workers.items l.dispatchers.items;
  worker_room : vec_len l.senders ≤ vec_capacity l.workers - vec_len l.workers;
  dispatcher_room : vec_len l.servers ≤ vec_capacity l.dispatchers - vec_len l.dispatchers;
}
