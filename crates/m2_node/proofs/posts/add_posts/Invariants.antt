-- The threads of the node's workers so far go last, each with its mail, and there is room for those that are left.
use Rattle.std.proofs.Common.{◌≡◌, ◌+◌, ◌-◌, ◌≤◌, drop, length, reverse, take}
use Rattle.std.specs.Prelude.{vec_capacity, vec_len}
use Rattle.m2_node.proofs.Posting.{AddedSoFar}
use Rattle.m2_node.proofs.posts.add_posts.Given as goal

abbrev pub invariant-centers : goal.invariant-centers
invariant-centers g l = record {
  added : AddedSoFar l.shares (l.node.centers - l.counter) l.fn.posts.senders.items l.fn.posts.mails.items l.posts.senders.items l.posts.mails.items l.gets.items (reverse l.workers.items)
      (take l.node.centers (reverse l.fn.workers.items)) (drop l.node.centers (reverse l.fn.workers.items));
  servers : l.posts.servers.items ≡ l.fn.posts.servers.items;
  server_room : 1 ≤ vec_capacity l.posts.servers - vec_len l.posts.servers;
  sender_room : l.node.centers ≤ (vec_capacity l.posts.senders - vec_len l.posts.senders) + l.counter;
  mail_room : l.node.centers ≤ (vec_capacity l.posts.mails - vec_len l.posts.mails) + l.counter;
  first : l.first ≡ length l.fn.posts.mails.items;
}
