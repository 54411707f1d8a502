-- The threads are still those of the nodes when they have run.
use Rattle.std.proofs.Common.{List, map, sym, subst}
use Rattle.std.proofs.lemmas.Result.{IfOk-weaker}
use Rattle.m2_links_go_on.specs.ClusterTold.{OneByOne}
use Rattle.m2_node.specs.Handing.{worker_of}
use Rattle.m2_node.specs.Posts.{PostsNow}
use Rattle.m2_node.specs.Working.{AllWork, Runs, WorkerNow}
use Rattle.m2_node.specs.declared.end.RunEnd.{RunEnd}
use Rattle.m2_node.proofs.MailsClosed.{posts_still}
use Rattle.m2_node.proofs.Goings.{stay_grouped}
use Rattle.m2_node.proofs.Watched.{all_work, workers_run}
use Rattle.m2_node.proofs.posts.work_out.Goals as goal

pub close_posts-requires-clause-groups : goal.close_posts-requires-clause-groups
close_posts-requires-clause-groups g c =
    let E = RunEnd g.row.P-End.Denot in
    let may = g.C.Clock.may_give in
    let ws = c.args.workers.items in
    let vs = map worker_of c.work_all.new.posts.senders.items in
    let runs = workers_run E (may c.args.clock.now) ws c.in_ok-posts.posts.senders.items c.work_all.new.posts.senders.items c.in_ok-posts.ensures.workers_are c.work_all.ensures.senders_run in
    stay_grouped (may c.args.clock.now) c.args.nodes.now c.args.shares.now ws vs (all_work E _ may c.steps_go_on.ensures c.polls_go_on.ensures c.args.clock.now ws vs runs) c.requires.groups

pub close_posts-requires-clause-posts : goal.close_posts-requires-clause-posts
close_posts-requires-clause-posts g c =
    let p = c.in_ok-posts.posts in
    let q = c.work_all.new.posts in
    let old : PostsNow = record { senders = p.senders.items; servers = p.servers.items; mails = p.mails.items } in
    let new : PostsNow = record { senders = q.senders.items; servers = q.servers.items; mails = q.mails.items } in
    posts_still c.args.nodes.now c.args.shares.now c.args.workers.items old new c.in_ok-posts.ensures c.work_all.ensures.senders c.work_all.ensures.servers c.work_all.ensures.serves

pub returns-clause-works : goal.returns-clause-works
returns-clause-works g c =
    let E = RunEnd g.row.P-End.Denot in
    let may = g.C.Clock.may_give in
    let ws = c.args.workers.items in
    let vs = map worker_of c.work_all.new.posts.senders.items in
    let runs = workers_run E (may c.args.clock.now) ws c.in_ok-posts.posts.senders.items c.work_all.new.posts.senders.items c.in_ok-posts.ensures.workers_are c.work_all.ensures.senders_run in
    let works = all_work E _ may c.steps_go_on.ensures c.polls_go_on.ensures c.args.clock.now ws vs runs in
    IfOk-weaker c.close_posts.result _ _ (λ closed same. subst (AllWork (may c.args.clock.now) ws) (sym same) works) c.close_posts.ensures.workers

pub returns-clause-runs : goal.returns-clause-runs
returns-clause-runs g c =
    let E = RunEnd g.row.P-End.Denot in
    let may = g.C.Clock.may_give c.args.clock.now in
    let ws = c.args.workers.items in
    let runs = workers_run E may ws c.in_ok-posts.posts.senders.items c.work_all.new.posts.senders.items c.in_ok-posts.ensures.workers_are c.work_all.ensures.senders_run in
    IfOk-weaker c.close_posts.result _ _ (λ closed same. subst (λ (vs : List WorkerNow). OneByOne (Runs E may) ws vs) (sym same) runs) c.close_posts.ensures.workers
