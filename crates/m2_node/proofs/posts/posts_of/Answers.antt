-- The workers and the rights are taken from the last one on, so they are turned round first.
use Rattle.std.proofs.Common.{◌∙◌, List, reverse, ap, sym, subst}
use Rattle.std.specs.List.{AllByRecursion}
use Rattle.std.proofs.lemmas.List.{reverse-reverse}
use Rattle.m2_node.specs.Handing.{HasHandedNothing}
use Rattle.m2_node.specs.Posts.{ArePosts}
use Rattle.m2_node.specs.Sharing.{AreRights}
use Rattle.m2_node.specs.Working.{AreGrouped, WorkerNow}
use Rattle.m2_node.proofs.posts.posts_of.Goals as goal

pub add_all_posts-added-requires-clause-groups : goal.add_all_posts-added-requires-clause-groups
add_all_posts-added-requires-clause-groups g c =
    subst (AreGrouped c.args.nodes.now c.args.shares.now) (sym (ap reverse c.reverse.ensures.items ∙ reverse-reverse c.args.workers.items)) c.requires.groups

pub add_all_posts-added-requires-clause-rights : goal.add_all_posts-added-requires-clause-rights
add_all_posts-added-requires-clause-rights g c = subst (AreRights c.args.shares.now) (sym (ap reverse c.reverse-2.ensures.items ∙ reverse-reverse c.args.rights.items)) c.requires.rights

pub add_all_posts-added-requires-clause-nothing : goal.add_all_posts-added-requires-clause-nothing
add_all_posts-added-requires-clause-nothing g c =
    subst (AllByRecursion HasHandedNothing) (sym (ap reverse c.reverse.ensures.items ∙ reverse-reverse c.args.workers.items)) c.requires.nothing

pub returns-in-Ok : goal.returns-in-Ok
returns-in-Ok g c =
    let p = c.add_all_posts-added.new.posts in
    subst (λ (ws : List WorkerNow). ArePosts c.args.nodes.now c.args.shares.now ws (record { senders = p.senders.items; servers = p.servers.items; mails = p.mails.items }))
    (ap reverse c.reverse.ensures.items ∙ reverse-reverse c.args.workers.items) c.in-Ok.ensures
