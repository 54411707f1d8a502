-- The slices that were lent come back as they are then.
use Rattle.std.proofs.Common.{◌≡◌, List, length, sym, ap, subst, ◌∙◌}
use Rattle.std.specs.List.{AllByRecursion}
use Rattle.m2_links_go_on.specs.ClusterTold.{OneByOne}
use Rattle.m2_node.specs.Dispatching.{IsServing, Mail, RunsServing, Serves, ServingNow}
use Rattle.m2_node.specs.Handing.{IsSending, RunsSender, SenderNow}
use Rattle.m2_node.specs.Lists.{SideBySide}
use Rattle.m2_node.specs.declared.end.RunEnd.{RunEnd}
use Rattle.m2_node.proofs.Workers.{lent_back}
use Rattle.m2_node.proofs.threads.work_all.Goals as goal

pub work_both-requires-clause-senders : goal.work_both-requires-clause-senders
work_both-requires-clause-senders g c κs within =
    subst (λ (ms : List Mail). SideBySide IsSending ms c.as_mut_slice.result.now) (sym c.as_slice.ensures.value)
    (subst (λ (ss : List SenderNow). SideBySide IsSending c.args.posts.now.mails.items ss) (sym c.as_mut_slice.ensures.value) c.requires.senders)

pub work_both-requires-clause-servers : goal.work_both-requires-clause-servers
work_both-requires-clause-servers g c κs within =
    subst (λ (ms : List Mail). AllByRecursion (IsServing ms) c.as_mut_slice-2.result.now) (sym c.as_slice.ensures.value)
    (subst (λ (vs : List ServingNow). AllByRecursion (IsServing c.args.posts.now.mails.items) vs) (sym c.as_mut_slice-2.ensures.value) c.requires.servers)

pub returns-clause-senders_run : goal.returns-clause-senders_run
returns-clause-senders_run g c =
    let runs = RunsSender (RunEnd g.row.P-End.Denot) (g.C.Clock.may_give c.args.clock.now) in
    let old = c.args.posts.now.senders in
    let new = c.work_both.new.senders in
    let same = c.as_mut_slice.ensures.value in
    let back = lent_back old.items new old.len (sym c.as_mut_slice.ensures.len ∙ ap length same) (subst (λ (xs : List SenderNow). length new ≡ length xs) same c.work_both.auto.senders) in
    subst (λ (xs : List SenderNow). OneByOne runs old.items xs) (sym back) (subst (λ (xs : List SenderNow). OneByOne runs xs new) same c.work_both.ensures.senders_run)

pub returns-clause-senders : goal.returns-clause-senders
returns-clause-senders g c =
    let old = c.args.posts.now.senders in
    let new = c.work_both.new.senders in
    let same = c.as_mut_slice.ensures.value in
    let back = lent_back old.items new old.len (sym c.as_mut_slice.ensures.len ∙ ap length same) (subst (λ (xs : List SenderNow). length new ≡ length xs) same c.work_both.auto.senders) in
    subst (λ (xs : List SenderNow). SideBySide IsSending c.args.posts.now.mails.items xs) (sym back)
    (subst (λ (ms : List Mail). SideBySide IsSending ms new) c.as_slice.ensures.value c.work_both.ensures.senders)

pub returns-clause-servers : goal.returns-clause-servers
returns-clause-servers g c =
    let old = c.args.posts.now.servers in
    let new = c.work_both.new.servers in
    let same = c.as_mut_slice-2.ensures.value in
    let back = lent_back old.items new old.len (sym c.as_mut_slice-2.ensures.len ∙ ap length same) (subst (λ (xs : List ServingNow). length new ≡ length xs) same c.work_both.auto.servers) in
    subst (λ (xs : List ServingNow). AllByRecursion (IsServing c.args.posts.now.mails.items) xs) (sym back)
    (subst (λ (ms : List Mail). AllByRecursion (IsServing ms) new) c.as_slice.ensures.value c.work_both.ensures.servers)

pub returns-clause-serves : goal.returns-clause-serves
returns-clause-serves g c =
    let old = c.args.posts.now.servers in
    let new = c.work_both.new.servers in
    let same = c.as_mut_slice-2.ensures.value in
    let back = lent_back old.items new old.len (sym c.as_mut_slice-2.ensures.len ∙ ap length same) (subst (λ (xs : List ServingNow). length new ≡ length xs) same c.work_both.auto.servers) in
    subst (λ (xs : List ServingNow). OneByOne Serves old.items xs) (sym back) (subst (λ (xs : List ServingNow). OneByOne Serves xs new) same c.work_both.ensures.serves)

pub returns-clause-servers_run : goal.returns-clause-servers_run
returns-clause-servers_run g c =
    let old = c.args.posts.now.servers in
    let new = c.work_both.new.servers in
    let same = c.as_mut_slice-2.ensures.value in
    let back = lent_back old.items new old.len (sym c.as_mut_slice-2.ensures.len ∙ ap length same) (subst (λ (xs : List ServingNow). length new ≡ length xs) same c.work_both.auto.servers) in
    subst (λ (xs : List ServingNow). OneByOne (RunsServing c.args.posts.now.mails.items) old.items xs) (sym back)
    (subst (λ (xs : List ServingNow). OneByOne (RunsServing c.args.posts.now.mails.items) xs new) same
    (subst (λ (ms : List Mail). OneByOne (RunsServing ms) c.as_mut_slice-2.result.now new) c.as_slice.ensures.value c.work_both.ensures.servers_run))
