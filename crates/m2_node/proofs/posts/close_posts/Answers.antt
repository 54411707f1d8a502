-- The threads, dispatchers and mails are taken from the last one on, so they are turned round first.
use Rattle.std.proofs.Common.{◌≡◌, ◌∙◌, List, map, reverse, ap, sym, subst}
use Rattle.std.proofs.lemmas.List.{reverse-reverse}
use Rattle.m2_node.specs.Dispatching.{Mail, ServingNow}
use Rattle.m2_node.specs.Handing.{SenderNow, worker_of}
use Rattle.m2_node.specs.Posts.{ArePosts}
use Rattle.m2_node.specs.Working.{AreGrouped}
use Rattle.m2_node.proofs.posts.close_posts.Goals as goal

pub close_servers-requires-clause-groups : goal.close_servers-requires-clause-groups
close_servers-requires-clause-groups g c =
    subst (λ (ss : List SenderNow). AreGrouped c.args.nodes.now c.args.shares.now (map worker_of ss)) (sym (ap reverse c.reverse.ensures.items ∙ reverse-reverse c.args.posts.senders.items)) c.requires.groups

pub close_servers-requires-clause-posts : goal.close_servers-requires-clause-posts
close_servers-requires-clause-posts g c =
    let nodes = c.args.nodes.now in
    let shares = c.args.shares.now in
    let p = c.args.posts in
    let senders : reverse c.reverse.new.self.items ≡ p.senders.items = ap reverse c.reverse.ensures.items ∙ reverse-reverse p.senders.items in
    let servers : reverse c.reverse-2.new.self.items ≡ p.servers.items = ap reverse c.reverse-2.ensures.items ∙ reverse-reverse p.servers.items in
    let mails : reverse c.reverse-3.new.self.items ≡ p.mails.items = ap reverse c.reverse-3.ensures.items ∙ reverse-reverse p.mails.items in
    subst (λ (ss : List SenderNow). ArePosts nodes shares (map worker_of ss) (record { senders = ss; servers = reverse c.reverse-2.new.self.items; mails = reverse c.reverse-3.new.self.items })) (sym senders)
    (subst (λ (vs : List ServingNow). ArePosts nodes shares (map worker_of p.senders.items) (record { senders = p.senders.items; servers = vs; mails = reverse c.reverse-3.new.self.items })) (sym servers)
    (subst (λ (ms : List Mail). ArePosts nodes shares (map worker_of p.senders.items) (record { senders = p.senders.items; servers = p.servers.items; mails = ms })) (sym mails) c.requires.posts))

pub returns-in-Ok-clause-workers : goal.returns-in-Ok-clause-workers
returns-in-Ok-clause-workers g c = c.in-Ok.ensures.workers ∙ ap (map worker_of) (ap reverse c.reverse.ensures.items ∙ reverse-reverse c.args.posts.senders.items)
