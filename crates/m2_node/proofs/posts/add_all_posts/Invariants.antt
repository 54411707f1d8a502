-- The threads, dispatchers and mails of the first nodes are made, and the workers and rights of the others are left.
use Rattle.std.proofs.Common.{drop, reverse}
use Rattle.m2_node.specs.Sharing.{AreRights}
use Rattle.m2_node.proofs.Posting.{PostsSoFar}
use Rattle.m2_node.proofs.posts.add_all_posts.Given as goal

abbrev pub invariant-nodes : goal.invariant-nodes
invariant-nodes g l = record {
  so_far : PostsSoFar l.nodes l.shares l.k (reverse l.fn.workers.items) (reverse l.workers.items) (record { senders = l.posts.senders.items; servers = l.posts.servers.items; mails = l.posts.mails.items });
  rights : AreRights (drop l.k l.shares) (reverse l.rights.items);
}
